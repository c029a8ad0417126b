-- What a refusal tells: its number, its worker and its layer. Assumes nothing.
--
-- number f          the number of the fault f; a roster's fault keeps its own
-- layer_of f        the layer that refuses: the group, or its roster
-- worker_in s       the worker that the step s was given: for Found the seat, for Lose 0
-- told_of w r       the answer r to what was asked of the worker w, with that worker in a refusal
use Rattle.std.specs.Prelude.{ℕ, Ok, Err, Result}
use Rattle.roster.specs.Faults.{fault_number}
use Rattle.protocol.specs.declared.fault.Layer.{Layer}
use Rattle.protocol.specs.declared.fault.Layer.TheVariants.{Group, Roster}
use Rattle.protocol.specs.declared.fault.Refusal.{Refusal}
use Rattle.protocol.specs.declared.fault.StepFault.{StepFault}
use Rattle.protocol.specs.declared.fault.StepFault.TheVariants.{Unmade, NoWorker, NoLine, NoMessage, NotAddressed, NotReady, NotTaken, WrongSeat, WrongLine, Late, NoRoom, OfRoster}
use Rattle.protocol.specs.declared.step.Step.{Step}
use Rattle.protocol.specs.declared.step.Step.TheVariants.{Found, Read, Lead, Prepare, Propose, Carry, Reseat, Deliver, Lose}

abbrev pub number : StepFault → ℕ
number Unmade = 1
number NoWorker = 2
number NoLine = 3
number NoMessage = 4
number NotAddressed = 5
number NotReady = 6
number NotTaken = 7
number WrongSeat = 8
number WrongLine = 9
number Late = 10
number NoRoom = 11
number (OfRoster f) = fault_number f

abbrev pub layer_of : StepFault → Layer
layer_of Unmade = Group
layer_of NoWorker = Group
layer_of NoLine = Group
layer_of NoMessage = Group
layer_of NotAddressed = Group
layer_of NotReady = Group
layer_of NotTaken = Group
layer_of WrongSeat = Group
layer_of WrongLine = Group
layer_of Late = Group
layer_of NoRoom = Group
layer_of (OfRoster f) = Roster

abbrev pub worker_in : {L : Type 0} → Step L → ℕ
worker_in (Found a) = a
worker_in (Read w) = w
worker_in (Lead w) = w
worker_in (Prepare w) = w
worker_in (Propose w k l) = w
worker_in (Carry w k) = w
worker_in (Reseat w b) = w
worker_in (Deliver m w) = w
worker_in (Lose m) = 0

abbrev pub told_of : {X F : Type 0} → ℕ → Result X F → Result X (Refusal F)
told_of w (Ok x) = Ok x
told_of w (Err f) = Err (record { fault = f; worker = w })

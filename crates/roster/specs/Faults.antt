-- The numbers of a roster's faults. Assumes nothing.
--
--   fault_number f      the number under which the fault f is reported
--   refusal_number r    the number of the fault in the answer r, if it is a refusal
use Rattle.std.specs.Prelude.{ℕ, Some, None, Ok, Err, Option, Result}
use Rattle.roster.specs.declared.fault.RosterFault.{RosterFault}
use Rattle.roster.specs.declared.fault.RosterFault.TheVariants.{Shut, NotNext, Full, NoEntry}

abbrev pub fault_number : RosterFault → ℕ
fault_number Shut = 20
fault_number NotNext = 21
fault_number Full = 22
fault_number NoEntry = 23

abbrev pub refusal_number : {A : Type 0} → Result A RosterFault → Option ℕ
refusal_number (Ok _) = None
refusal_number (Err f) = Some (fault_number f)

-- A group that was made with other sizes refuses every step: its first question is answered with no.
use Rattle.std.proofs.Common.{◌≡◌, Bool, true, false, cond, Err, Result, refl, ap}
use Rattle.std.proofs.lemmas.Bool.{both_ways, cond-false}
use Rattle.protocol.specs.declared.fault.StepFault.{StepFault}
use Rattle.protocol.specs.declared.fault.StepFault.TheVariants.{Unmade}
use Rattle.protocol.specs.declared.step.Step.{Step}
use Rattle.protocol.specs.declared.step.Step.TheVariants.{Found, Read, Lead, Prepare, Propose, Carry, Reseat, Deliver, Lose}
use Rattle.protocol.specs.Faults.{worker_in, told_of}
use Rattle.protocol.specs.Store.{Store, after, plainly, made_in, step_result}
use Rattle.protocol.specs.Runs.{UnmadeRefuses}

unmade : {X Y : Type 0} (m : Bool) (x : Result X StepFault) (F : X → Result Y StepFault) → m ≡ false → after (cond m x (Err Unmade)) F ≡ Err Unmade
unmade false x F h = refl
unmade true x F h = absurd (both_ways true h refl)

first_no : {L : Type 0} (s : Step L) (g : Store L) → made_in g ≡ false → step_result s g ≡ Err Unmade
first_no (Found a) g h = ap plainly (unmade (made_in g) _ _ h)
first_no (Read w) g h = ap plainly (unmade (made_in g) _ _ h)
first_no (Lead w) g h = ap plainly (unmade (made_in g) _ _ h)
first_no (Prepare w) g h = ap plainly (unmade (made_in g) _ _ h)
first_no (Propose w k l) g h = unmade (made_in g) _ _ h
first_no (Carry w k) g h = ap plainly (unmade (made_in g) _ _ h)
first_no (Reseat w b) g h = ap plainly (unmade (made_in g) _ _ h)
first_no (Deliver m w) g h = ap plainly (unmade (made_in g) _ _ h)
first_no (Lose m) g h = ap plainly (unmade (made_in g) _ _ h)

pub unmade_refuses : (L : Type 0) → UnmadeRefuses L
unmade_refuses L g h = (λ s. ap (told_of (worker_in s)) (first_no s g h), λ w k. cond-false (made_in g) _ _ h)

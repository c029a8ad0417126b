-- Words that the promises use. Assumes nothing.
--
-- Stands R p x            the entry x stands at place p of the list R; At is the same as a record
-- Newest R e x            the newest Seat entry of R stands at place e and is the worker x's
-- tally f n               how many of the lines 1 to n pass the test f
-- Proposed ps k l         among the lines ps that were proposed is l for k
-- under e k hs            line k was accepted under the Seat entry at place e
-- accepted-under e hs     how many lines were
-- proposals ss            the Proposes among the steps ss
use Rattle.std.specs.Prelude.{◌≡◌, ℕ, zero, suc, ◌<◌, Bool, true, false, ◌&&◌, ◌||◌, ◌⊎◌, List, [], ◌∷◌, ◌==◌}
use Rattle.roster.specs.declared.entry.Entry.{Entry}
use Rattle.roster.specs.declared.entry.Entry.TheVariants.{Seat as seat}
use Rattle.protocol.specs.declared.step.Step.{Step}
use Rattle.protocol.specs.declared.step.Step.TheVariants.{Found, Read, Lead, Prepare, Propose, Carry, Reseat, Deliver, Lose}
use Rattle.protocol.specs.Limits.{lines}

-- places count from 1
abbrev pub Stands : {L : Type 0} → List (Entry L) → ℕ → Entry L → Type 0
Stands [] p x = ⊥
Stands (y ∷ ys) zero x = ⊥
Stands (y ∷ ys) (suc zero) x = x ≡ y
Stands (y ∷ ys) (suc (suc p)) x = Stands ys (suc p) x

pub record At {L : Type 0} (R : List (Entry L)) (p : ℕ) (x : Entry L) : Type 0 where
  pub here : Stands R p x

abbrev pub Newest : {L : Type 0} → List (Entry L) → ℕ → ℕ → Type 0
Newest R e x = At R e (seat x) × ((q u : ℕ) → e < q → At R q (seat u) → ⊥)

abbrev pub bump : Bool → ℕ → ℕ
bump true n = suc n
bump false n = n

abbrev pub tally : (ℕ → Bool) → ℕ → ℕ
tally f zero = 0
tally f (suc n) = bump (f (suc n)) (tally f n)

abbrev pub Proposed : {L : Type 0} → List (ℕ × L) → ℕ → L → Type 0
Proposed [] k l = ⊥
Proposed (p ∷ ps) k l = ((k ≡ p.0) × (l ≡ p.1)) ⊎ Proposed ps k l

abbrev pub under : ℕ → ℕ → List (ℕ × ℕ) → Bool
under e k [] = false
under e k (p ∷ hs) = (e == p.0 && k == p.1) || under e k hs

abbrev pub accepted-under : ℕ → List (ℕ × ℕ) → ℕ
accepted-under e hs = tally (λ k. under e k hs) lines

abbrev pub puts : {L : Type 0} → Step L → List (Step L) → List (Step L)
puts (Propose w k l) ss = Propose w k l ∷ ss
puts (Found a) ss = ss
puts (Read w) ss = ss
puts (Lead w) ss = ss
puts (Prepare w) ss = ss
puts (Carry w k) ss = ss
puts (Reseat w b) ss = ss
puts (Deliver m w) ss = ss
puts (Lose m) ss = ss

abbrev pub proposals : {L : Type 0} → List (Step L) → List (Step L)
proposals [] = []
proposals (s ∷ ss) = puts s (proposals ss)

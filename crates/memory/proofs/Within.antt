-- A place at which an entry is read lies within the list, and so within the limit of all rosters: past it a read is refused.
use Rattle.std.proofs.Common.{◌≡◌, ℕ, zero, suc, ◌-◌, ◌<◌, ◌≤◌, Bool, true, false, cond, eqb, List, [], ◌∷◌, length, Ok, Err, arith}
use Rattle.roster.specs.declared.fault.RosterFault.TheVariants.{Shut, NoEntry}
use Rattle.roster.specs.Answers.{entry_answer, read_answer}
use Rattle.roster.specs.Limits.{entries_max}
use Rattle.roster.specs.Model.{RosterModel, Bounded, readable}

entry_inside : {E : Type 0} (es : List E) (i : ℕ) (e : E) → Ok e ≡ entry_answer es i → i < length es
entry_inside [] i e h = let z : ◌≡◌ {A = ℕ} 0 1 = cc in absurd (omega arith)
entry_inside (x ∷ es) zero e h = omega arith
entry_inside (x ∷ es) (suc i) e h = let z = entry_inside es i e h in omega arith

inside : {E : Type 0} (o q : Bool) (es : List E) (i : ℕ) (e : E) → Ok e ≡ cond o (cond q (Err NoEntry) (entry_answer es i)) (Err Shut) → i < length es
inside false q es i e h = let z : ◌≡◌ {A = ℕ} 0 1 = cc in absurd (omega arith)
inside true true es i e h = let z : ◌≡◌ {A = ℕ} 0 1 = cc in absurd (omega arith)
inside true false es i e h = entry_inside es i e h

pub read_within : {E : Type 0} (m : RosterModel E) (p : ℕ) (e : E) → Ok e ≡ read_answer m p → Bounded m → p ≤ entries_max
read_within m p e h b =
    let z = inside (readable m) (eqb p 0) m.entries (p - 1) e h in
    let f = b.fits in
    let s = b.small in
    omega arith

-- What becomes of a roster under any sequence of calls. Assumes nothing.
--
--   after_call c m    the roster after the call c
--   after_calls cs m  the roster after the calls cs, one after the other
--   BeginsWith es fs  the list es begins with fs: it is fs, and then perhaps more
--   Grown m n         n has the entries of m at their places and perhaps more after them, within the capacity of m, in its state
--   EntriesStay E     the law of all rosters of entries of kind E, for any roster m and any calls cs
--     .grown          the list only grows, and never passes the capacity
--     .stays          an entry that is read at a place is read there after any calls
--     .back           an entry that was appended at a place is read there after any calls
use Rattle.std.specs.Prelude.{◌≡◌, ℕ, true, List, ◌∷◌, ◌++◌, fold, Ok}
use Rattle.roster.specs.declared.runs.Call.{Call}
use Rattle.roster.specs.declared.runs.Call.TheVariants.{Append, Read}
use Rattle.roster.specs.Answers.{append_answer, appended_to, read_answer}
use Rattle.roster.specs.Model.{RosterModel, Bounded, readable}

abbrev pub after_call : {E : Type 0} → Call E → RosterModel E → RosterModel E
after_call (Append p e) m = appended_to (append_answer m p) m e
after_call (Read p) m = m

abbrev pub after_calls : {E : Type 0} → List (Call E) → RosterModel E → RosterModel E
after_calls cs m = fold (λ n c. after_call c n) m cs

abbrev pub BeginsWith : {E : Type 0} → List E → List E → Type 0
BeginsWith {E} es fs = (more : List E) × (es ≡ fs ++ more)

pub record Grown {E : Type 0} (m n : RosterModel E) : Type 0 where
  pub begins : BeginsWith n.entries m.entries
  pub capacity : n.capacity ≡ m.capacity
  pub state : n.state ≡ m.state
  pub bounded : Bounded n

pub record EntriesStay (E : Type 0) : Type 0 where
  pub grown : (m : RosterModel E) (cs : List (Call E)) → Bounded m → Grown m (after_calls cs m)
  pub stays : (m : RosterModel E) (cs : List (Call E)) (p : ℕ) (e : E) → read_answer m p ≡ Ok e → read_answer (after_calls cs m) p ≡ Ok e
  pub back : (m : RosterModel E) (cs : List (Call E)) (p : ℕ) (e : E) → readable m ≡ true → append_answer m p ≡ Ok tt → read_answer (after_calls (Append p e ∷ cs) m) p ≡ Ok e

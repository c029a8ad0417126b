-- What the calls of a roster answer and leave. Assumes nothing.
--
--   append_answer m p     the answer to an append at place p: open (20), the next place (21), room (22), asked in this order
--   appended_to r m e     the roster after an append of e that was answered r: just e more at the end, or as before
--   entry_answer es i     the answer to a read of the entry after the first i
--   read_answer m p       the answer to a read of place p: open (20), a place from 1 to the length (23), asked in this order
use Rattle.std.specs.Prelude.{ℕ, ◌+◌, ◌-◌, cond, List, [], ◌∷◌, ◌++◌, length, Ok, Err, Result, ◌==◌, nat_lt, slice_get}
use Rattle.std.specs.Option.{ok_or}
use Rattle.roster.specs.declared.fault.RosterFault.{RosterFault}
use Rattle.roster.specs.declared.fault.RosterFault.TheVariants.{Shut, NotNext, Full, NoEntry}
use Rattle.roster.specs.Model.{RosterModel, readable, appendable}

abbrev pub append_answer : {E : Type 0} → RosterModel E → ℕ → Result Unit RosterFault
append_answer m p =
    cond (appendable m)
    (cond (p == length m.entries + 1) (cond (nat_lt (length m.entries) m.capacity) (Ok tt) (Err Full)) (Err NotNext))
    (Err Shut)

abbrev pub appended_to : {E : Type 0} → Result Unit RosterFault → RosterModel E → E → RosterModel E
appended_to (Ok _) m e = record { entries = m.entries ++ e ∷ []; capacity = m.capacity; state = m.state }
appended_to (Err _) m e = m

abbrev pub entry_answer : {E : Type 0} → List E → ℕ → Result E RosterFault
entry_answer es i = ok_or (slice_get es i) NoEntry

abbrev pub read_answer : {E : Type 0} → RosterModel E → ℕ → Result E RosterFault
read_answer m p = cond (readable m) (cond (p == 0) (Err NoEntry) (entry_answer m.entries (p - 1))) (Err Shut)

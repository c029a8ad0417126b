-- What a plain roster stands for. Assumes nothing.
--
--   capacity_in t       the capacity of a roster in the table t: its length, within the limit of all rosters
--   empty_in t          an empty roster in the table t
--   plain_model s       always open; its list is the used part of the table
--   table_of s          the roster's table
--   table_after r s e   the table of s after an append of e that was answered r: e at the place past the list, or as before
--   beyond s            what lies in the table past the capacity, which is none of the roster's
use Rattle.std.specs.Prelude.{ℕ, min, List, [], length, take, drop, Ok, Err, Result, slice_set}
use Rattle.roster.specs.declared.fault.RosterFault.{RosterFault}
use Rattle.roster.specs.declared.plain.PlainRoster.{PlainRoster}
use Rattle.roster.specs.Limits.{entries_max}
use Rattle.roster.specs.Model.{RosterModel, opened}

abbrev pub capacity_in : {E : Type 0} → List E → ℕ
capacity_in t = min (length t) entries_max

abbrev pub empty_in : {E : Type 0} → List E → RosterModel E
empty_in t = opened [] (capacity_in t)

abbrev pub plain_model : {E : Type 0} → PlainRoster E → RosterModel E
plain_model s = opened (take s.len s.table.now) (capacity_in s.table.now)

abbrev pub table_of : {E : Type 0} → PlainRoster E → List E
table_of s = s.table.now

abbrev pub table_after : {E : Type 0} → Result Unit RosterFault → PlainRoster E → E → List E
table_after (Ok _) s e = slice_set s.table.now s.len e
table_after (Err _) s e = s.table.now

abbrev pub beyond : {E : Type 0} → PlainRoster E → List E
beyond s = drop (capacity_in s.table.now) s.table.now

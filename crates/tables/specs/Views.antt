-- What lent memory holds. Assumes nothing.
--
-- table_of t      what a lent table holds
-- list_of s       the list in the used places of a lent table
-- places_of s     how many places that table has
-- free_of s       what the places past that list hold
-- row_of w cells  the cells of worker w in a table of 64 cells a worker
-- HasRow t w      the lent table t has the cells of worker w
use Rattle.std.specs.Prelude.{ℕ, ◌+◌, ◌*◌, ◌≤◌, List, length, take, drop}
use Rattle.protocol.specs.Limits.{lines}
use Rattle.tables.specs.declared.lent.Table.{Table}
use Rattle.tables.specs.declared.lent.LentList.{LentList}

abbrev pub table_of : {T : Type 0} → Table T → List T
table_of t = t.all.now

abbrev pub list_of : {T : Type 0} → LentList T → List T
list_of s = take s.len s.table.now

abbrev pub places_of : {T : Type 0} → LentList T → ℕ
places_of s = length s.table.now

abbrev pub free_of : {T : Type 0} → LentList T → List T
free_of s = drop s.len s.table.now

abbrev pub row_of : {C : Type 0} → ℕ → List C → List C
row_of w cells = take lines (drop (lines * w) cells)

abbrev pub HasRow : {C : Type 0} → Table C → ℕ → Type 0
HasRow t w = lines * w + lines ≤ length (table_of t)

-- The sheet so far is the fold over the lines so far, on the same slice.
use Rattle.std.proofs.Common.{◌≡◌, take}
use Rattle.keylines.specs.Sheets.{worked_on}
use Rattle.keys.specs.Views.{SameSlice, sheet_now, table_capacity}
use Rattle.keys.proofs.sheet.KeySheet.apply_all.Given as goal

abbrev pub invariant-loop-line : goal.invariant-loop-line
invariant-loop-line g l =
    (sheet_now l.table l.self ≡ worked_on g.K.Key.alike (table_capacity l.initial.table) (sheet_now l.initial.table l.initial.self) (take l.line-index l.lines))
    × SameSlice l.initial.table l.table

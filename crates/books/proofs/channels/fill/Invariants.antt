-- The table and the counts are those of the lines so far, where they are all held, on the same slice.
use Rattle.std.proofs.Common.{◌+◌, ◌-◌, ◌≤◌}
use Rattle.roster.specs.declared.entry.Entry.{Entry}
use Rattle.roster.specs.Model.{RosterModel}
use Rattle.keylines.specs.declared.lines.ChannelLine.{ChannelLine}
use Rattle.keys.specs.Views.{SameSlice, sheet_now, table_capacity}
use Rattle.group.specs.Views.{store_of}
use Rattle.books.proofs.Filling.{Filled}
use Rattle.books.proofs.channels.fill.Given as goal

abbrev pub invariant-loop-k : goal.invariant-loop-k
invariant-loop-k g l = record {
  within : l.k ≤ l.to + 1;
  filled : (m : RosterModel (Entry (ChannelLine g.row.K.Denot))) → Filled g.K.Key.alike (table_capacity l.initial.table) (store_of l.group m) l.worker (l.k - 1) (sheet_now l.table l.sheet);
  slice : SameSlice l.initial.table l.table;
}

-- The lines of the cells so far are reported, and the others are left.
use Rattle.std.proofs.Common.{◌≡◌, ◌+◌, ◌++◌}
use Rattle.protocol.specs.Limits.{lines}
use Rattle.protocol.specs.Store.{lines_in, reports}
use Rattle.tables.specs.Views.{list_of, places_of, table_of}
use Rattle.tables.proofs.reports.send_counted.Given as goal

abbrev pub invariant-loop-i : goal.invariant-loop-i
invariant-loop-i g l = record {
  items : list_of l.messages ≡ list_of l.fn.messages ++ reports l.w l.to l.epoch l.claim l.i (table_of l.cells);
  places : places_of l.messages ≡ places_of l.fn.messages;
  left : l.left + lines_in l.w l.i (table_of l.cells) ≡ lines_in l.w lines (table_of l.cells);
}

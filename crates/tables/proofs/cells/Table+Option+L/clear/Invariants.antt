-- The table with the row as it is so far has the cells so far cleared.
use Rattle.std.proofs.Common.{◌≡◌, ◌+◌, ◌-◌, ◌*◌}
use borrow.Rule.Slice.PartMut.{put_mid}
use Rattle.protocol.specs.Store.{cleared}
use Rattle.tables.proofs.cells.Table+Option+L.clear.Given as goal

abbrev pub invariant-loop-i : goal.invariant-loop-i
invariant-loop-i g l = put_mid (64 * l.w) (64 * l.w + 64 - 64 * l.w) l.fn.self.all.now l.row ≡ cleared l.carried l.w l.i l.fn.self.all.now

-- Under a later entry there is no accepted line yet.
use Rattle.std.proofs.Common.{sym, ap, ◌∙◌, arith}
use Rattle.std.proofs.lemmas.Bool.{cond-true, lt-ltb}
use Rattle.protocol.specs.Limits.{lines}
use Rattle.protocol.specs.Store.{lines_in, cleared}
use Rattle.delivery.proofs.Empties.{lines_emptied}
use Rattle.delivery.proofs.acceptor.seated_count.Goals as goal

pub returns-then-x-epoch : goal.returns-then-x-epoch
returns-then-x-epoch g c = sym (ap (lines_in c.args.w lines) (cond-true _ (cleared 0 c.args.w lines c.args.cells.now.all.now) _ (lt-ltb _ _ c.if-x-epoch.true)) ∙ lines_emptied c.args.w lines lines c.args.cells.now.all.now (omega arith))

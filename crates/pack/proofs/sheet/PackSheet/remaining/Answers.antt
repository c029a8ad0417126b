-- The remaining time goes by the last fit line.
use Rattle.std.proofs.Common.{rules}
use Rattle.pack.proofs.Folds.{time_by_last_fit}
use Rattle.pack.proofs.sheet.PackSheet.remaining.Goals as goal

pub returns-in-Draining-clause-time : goal.returns-in-Draining-clause-time
returns-in-Draining-clause-time c = time_by_last_fit c.args.self.now _ (search rules)

pub returns-in_default-clause-time : goal.returns-in_default-clause-time
returns-in_default-clause-time c = time_by_last_fit c.args.self.now _ (search rules)

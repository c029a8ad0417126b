-- The promise is kept.
use Rattle.protocol.proofs.Kept.{equal_sheets}
use Rattle.protocol.proofs.promises.equal_sheets.Goals as goal

pub returns-clause-promise : goal.returns-clause-promise
returns-clause-promise g c = equal_sheets _ _

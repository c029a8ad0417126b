-- The promise is kept.
use Rattle.protocol.proofs.Kept.{permanence}
use Rattle.protocol.proofs.promises.permanence.Goals as goal

pub returns-clause-promise : goal.returns-clause-promise
returns-clause-promise g c = permanence _

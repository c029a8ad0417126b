-- The run goes on by all the steps.
use Rattle.std.proofs.Common.{arith}
use Rattle.std.proofs.lemmas.Grind.{common_steps}
use Rattle.protocol.proofs.Chain.{plays_on}
use Rattle.group.proofs.state.Group.play.Goals as goal

pub returns-clause-promise : goal.returns-clause-promise
returns-clause-promise g c = plays_on c.args.steps.now _ _ (grind (arith, common_steps))

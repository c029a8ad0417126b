-- The run goes on by the step that was done.
use Rattle.std.proofs.Common.{rules}
use Rattle.protocol.specs.declared.step.Step.TheVariants.{Read}
use Rattle.protocol.proofs.Chain.{goes_on}
use Rattle.group.proofs.state.Group.read.Goals as goal

pub returns-clause-promise : goal.returns-clause-promise
returns-clause-promise g c = goes_on (Read c.args.w) _ _ (search rules)

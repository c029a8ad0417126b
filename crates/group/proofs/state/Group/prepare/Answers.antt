-- The run goes on by the step that was done, beside any roster.
use Rattle.std.proofs.Common.{rules}
use Rattle.protocol.specs.declared.step.Step.TheVariants.{Prepare}
use Rattle.protocol.proofs.Chain.{goes_on}
use Rattle.group.proofs.state.Group.prepare.Goals as goal

pub returns-clause-promise : goal.returns-clause-promise
returns-clause-promise g c = λ m. goes_on (Prepare c.args.w) _ _ (search rules)

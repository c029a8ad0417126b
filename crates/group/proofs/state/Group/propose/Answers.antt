-- The run goes on by the step that was done, beside any roster.
use Rattle.std.proofs.Common.{rules}
use Rattle.protocol.specs.declared.step.Step.TheVariants.{Propose}
use Rattle.protocol.proofs.Chain.{goes_on}
use Rattle.group.proofs.state.Group.propose.Goals as goal

pub returns-clause-promise : goal.returns-clause-promise
returns-clause-promise g c = λ m. goes_on (Propose c.args.w c.args.k c.args.line) _ _ (search rules)

-- The run goes on by the step that was done, beside any roster.
use Rattle.std.proofs.Common.{arith}
use Rattle.std.proofs.lemmas.Grind.{common_steps}
use Rattle.protocol.specs.declared.step.Step.TheVariants.{Deliver}
use Rattle.protocol.proofs.Chain.{goes_on}
use Rattle.group.proofs.state.Group.deliver.Goals as goal

pub returns-clause-promise : goal.returns-clause-promise
returns-clause-promise g c = λ m. goes_on (Deliver c.args.m c.args.w) _ _ (grind (arith, common_steps))

-- The run goes on by the step that was done.
use Rattle.std.proofs.Common.{rules}
use Rattle.protocol.specs.declared.step.Step.TheVariants.{Reseat}
use Rattle.protocol.proofs.Chain.{goes_on}
use Rattle.group.proofs.state.Group.reseat.Goals as goal

pub returns-clause-promise : goal.returns-clause-promise
returns-clause-promise g c = goes_on (Reseat c.args.w c.args.b) _ _ (search rules)

-- The group after the line is known, so the line leads on to a run.
use Rattle.std.proofs.Common.{rules}
use Rattle.replies.proofs.Leading.{line_goes_on}
use Rattle.replies.proofs.run.run_line.Goals as goal

pub returns-clause-promise : goal.returns-clause-promise
returns-clause-promise g c = line_goes_on c.args.line.now _ _ (search rules)

pub returns-in_err-command-clause-promise : goal.returns-in_err-command-clause-promise
returns-in_err-command-clause-promise g c = line_goes_on c.args.line.now _ _ (search rules)

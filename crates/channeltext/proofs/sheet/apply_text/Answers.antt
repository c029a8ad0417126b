-- The sheet after the line is known, so its laws go on.
use Rattle.std.proofs.Common.{rules}
use Rattle.channeltext.proofs.Growth.{laws_go_on}
use Rattle.channeltext.proofs.sheet.apply_text.Goals as goal

pub returns-clause-law : goal.returns-clause-law
returns-clause-law c = laws_go_on _ _ _ c.args.line.now (search rules)

pub returns-in_err-request-clause-law : goal.returns-in_err-request-clause-law
returns-in_err-request-clause-law c = laws_go_on _ _ _ c.args.line.now (search rules)

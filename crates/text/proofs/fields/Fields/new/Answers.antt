-- All the line's parts are left at its first byte.
use Rattle.text.proofs.Cutting.{line_parted}
use Rattle.text.proofs.fields.Fields.new.Goals as goal

pub returns-clause-parts : goal.returns-clause-parts
returns-clause-parts c = line_parted c.args.line.now

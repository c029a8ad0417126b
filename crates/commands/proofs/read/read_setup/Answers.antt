-- The reader that is passed takes a setup.
use Rattle.text.proofs.Whole.{reads_by}
use Rattle.commands.specs.Commands.{setup_in}
use Rattle.commands.proofs.read.read_setup.Goals as goal

pub returns : goal.returns
returns c = c.parse_line.ensures setup_in (reads_by setup_in (λ x y r h. h))

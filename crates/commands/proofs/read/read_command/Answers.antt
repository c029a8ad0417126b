-- The reader that is passed takes a command.
use Rattle.text.proofs.Whole.{reads_by}
use Rattle.commands.specs.Commands.{command_in}
use Rattle.commands.proofs.read.read_command.Goals as goal

pub returns : goal.returns
returns c = c.parse_line.ensures command_in (reads_by command_in (λ x y r h. h))

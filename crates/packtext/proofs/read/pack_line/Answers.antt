-- The reader that is passed takes a pack line.
use Rattle.packtext.specs.Written.{pack_line_in}
use Rattle.text.proofs.Whole.{reads_by}
use Rattle.packtext.proofs.read.pack_line.Goals as goal

pub returns : goal.returns
returns c = c.parse_line.ensures pack_line_in (reads_by pack_line_in (λ x y r h. h.0))

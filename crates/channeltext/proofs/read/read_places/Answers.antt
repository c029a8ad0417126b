-- The reader that is passed takes the size of a table.
use Rattle.text.proofs.Whole.{reads_by}
use Rattle.channeltext.specs.Requests.{places_in}
use Rattle.channeltext.proofs.read.read_places.Goals as goal

pub returns : goal.returns
returns c = c.parse_line.ensures places_in (reads_by places_in (λ x y r h. h))

-- The reader that is passed takes a request.
use Rattle.text.proofs.Whole.{reads_by}
use Rattle.channeltext.specs.Requests.{request_in}
use Rattle.channeltext.proofs.read.read_request.Goals as goal

pub returns : goal.returns
returns c = c.parse_line.ensures request_in (reads_by request_in (λ x y r h. h))

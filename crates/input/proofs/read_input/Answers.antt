-- The bounded reader has the first bytes left, and they go behind an empty vector.
use Rattle.input.specs.declared.TheConstants.{INPUT_MOST}
use Rattle.input.proofs.Bounded.{first_bytes}
use Rattle.input.proofs.read_input.Goals as goal

pub returns : goal.returns
returns g c =
    first_bytes INPUT_MOST (g.R.Read.remaining c.args.reader) _
    (rw (c.take.ensures.limit, c.take.ensures.inner, c.new-bytes.ensures.items) at c.in_ok-read_to_end.ensures.bytes)

-- The test is that of the line that the group tells.
use Rattle.std.proofs.Common.{◌≡◌, is_none, ap, ◌∙◌, rules}
use Rattle.books.proofs.held.fn.held_to.position.Goals as goal

pub returns : goal.returns
returns g c m = let e : c.is_none.result ≡ is_none c.line.result = search rules in e ∙ ap is_none (c.line.ensures m)

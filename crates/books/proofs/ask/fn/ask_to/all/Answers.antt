-- The test is that of the line that the group tells.
use Rattle.std.proofs.Common.{◌≡◌, is_some, ap, ◌∙◌, rules}
use Rattle.books.proofs.ask.fn.ask_to.all.Goals as goal

pub returns : goal.returns
returns g c m = let e : c.is_some.result ≡ is_some c.line.result = search rules in e ∙ ap is_some (c.line.ensures m)

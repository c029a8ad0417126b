-- Where the next field begins within the line, there is one.
use Rattle.std.proofs.Common.{◌≡◌, Err, ap, ◌∙◌, subst}
use Rattle.text.specs.Reading.{bad_at, end_of}
use Rattle.text.proofs.Cutting.{one_left}
use Rattle.text.proofs.fields.Fields.end.Goals as goal

pub returns-then-self-clause-value : goal.returns-then-self-clause-value
returns-then-self-clause-value c =
    ap (λ n. Err (bad_at n)) c.place.ensures.value ∙ subst (λ u. Err (bad_at u.place) ≡ end_of u) c.self.view_is (one_left c.self.inside.line.now c.self.inside.next c.if-self.true)

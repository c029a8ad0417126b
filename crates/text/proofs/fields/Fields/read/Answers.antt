-- What the parser computes of the field that was taken.
use Rattle.std.proofs.Common.{ℕ, List, refl}
use Rattle.std.specs.Fn.{FnOnceReturnsAt}
use Rattle.text.specs.Reading.{bad_at}
use Rattle.text.proofs.Cutting.{read_first, if_given}
use Rattle.text.proofs.fields.Fields.read.Goals as goal

pub returns-clause-value : goal.returns-clause-value
returns-clause-value g c rule computes =
    let f = c.in_ok-field.field-0 in
    let o = computes f.now c.parse.result (f, c.parse.ensures, refl) in
    read_first rule c.args.self.now f.now c.parse.result c.place-place.result c.ok_or.result c.ok_or.ensures.value c.in_ok-field.ensures.value o c.place-place.ensures.value

pub returns-clause-given : goal.returns-clause-given
returns-clause-given g c =
    if_given (λ o. (f : List ℕ) × FnOnceReturnsAt g.F.FnOnce c.args.parse f o) c.parse.result c.ok_or.result (bad_at c.place-place.result) c.ok_or.ensures.value
    (c.in_ok-field.field-0.now, (c.in_ok-field.field-0, c.parse.ensures, refl))

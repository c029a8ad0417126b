-- The field ends at the first space that follows, and the next begins one byte further.
use Rattle.std.proofs.Common.{◌≤◌, eqb, Ok, take, length, ◌+◌, refl, subst, sym, ap, ◌∙◌, arith, rules}
use Rattle.std.specs.List.{position_or_len}
use Rattle.text.specs.Reading.{space, first_field, past_field}
use Rattle.text.proofs.Cutting.{got_rest, next_first, next_unread}
use Rattle.text.proofs.fields.Fields.field.Goals as goal

pub overflow_add-self : goal.overflow_add-self
overflow_add-self c = let rest = got_rest c.get.result c.in_ok-rest.rest _ c.get.ensures.lookup c.in_ok-rest.ensures.value in omega arith

pub overflow_add-self-2 : goal.overflow_add-self-2
overflow_add-self-2 c = let rest = got_rest c.get.result c.in_ok-rest.rest _ c.get.ensures.lookup c.in_ok-rest.ensures.value in omega arith

pub invariant_of-self : goal.invariant_of-self
invariant_of-self c = let rest = got_rest c.get.result c.in_ok-rest.rest _ c.get.ensures.lookup c.in_ok-rest.ensures.value in omega arith

pub returns : goal.returns
returns c =
    let bs = c.self.inside.line.now in
    let i = c.self.inside.next in
    let n = c.run_length-length.result in
    let rest = got_rest c.get.result c.in_ok-rest.rest _ c.get.ensures.lookup c.in_ok-rest.ensures.value in
    let w = c.run_length-length.ensures.value ∙ ap (position_or_len (λ b. eqb b space)) rest.is in
    record {
      value = ap (λ z. Ok (take n z)) rest.is ∙ next_first bs i n rest.within w ∙ ap first_field c.self.view_is;
      after = next_unread bs i n rest.within w (subst (λ z. n ≤ length z) rest.is c.run_length-length.ensures.bound) ∙ ap past_field c.self.view_is;
      left = (
        record { line = bs; next = i; size = search rules; within = c.self.invariant; left = sym c.self.view_is },
        record { line = bs; next = i + (n + 1); size = search rules; within = omega arith; left = refl },
      );
    }

-- Each turn takes one digit off what is left; a number of i digits is below the i-th power of ten.
use Rattle.std.proofs.Common.{◌≡◌, ◌^◌, ◌<◌, ◌≤◌, true, get_or, Some, fold, sym, ◌∙◌, pow-suc, add-one, arith, lit<}
use native.Mathlib.Nat.{pow-le-pow_right}
use Rattle.std.specs.Char.{is_ascii_digit}
use Rattle.std.proofs.lemmas.Bool.Decides.{nat_tests}
use Rattle.std.proofs.lemmas.List.{at_drop_all}
use Rattle.text.specs.Texts.{digit_on}
use Rattle.text.proofs.Runs.{digit_more, no_digit}
use Rattle.text.proofs.bytes.decimal_of.Goals as goal

pub returns-then-not-is_ascii_digit-clause-value : goal.returns-then-not-is_ascii_digit-clause-value
returns-then-not-is_ascii_digit-clause-value c =
    sym (no_digit c.loop-b.n c.args.digits.now c.loop-b.b-index c.loop-b-test.true (sym c.is_ascii_digit.ensures.value ∙ c.if-not-is_ascii_digit.true)) ∙ c.loop-b.invariant.0

pub loop-b-preserved : goal.loop-b-preserved
loop-b-preserved c =
    let e : is_ascii_digit (get_or c.args.digits.now c.loop-b.b-index 0) ≡ true = sym c.is_ascii_digit.ensures.value ∙ c.if-not-is_ascii_digit.false in
    let f = digit_more c.loop-b.n c.args.digits.now c.loop-b.b-index c.loop-b-test.true e in
    let small : c.from.result < 10 = grind (arith, nat_tests) in
    (grind (arith, f), rw (add-one, pow-suc) (omega arith))

pub returns : goal.returns
returns c =
    let f = at_drop_all (fold digit_on (Some c.loop-b.n)) c.args.digits.now c.loop-b.b-index (omega arith) in
    let few : c.loop-b.b-index ≤ 10 = omega arith in
    let p : 10 ^ c.loop-b.b-index ≤ 10 ^ 10 = pow-le-pow_right (lit< tt) few in
    record { value = sym f ∙ c.loop-b.invariant.0; bound = omega arith }

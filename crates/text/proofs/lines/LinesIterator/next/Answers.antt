-- The line ends at the first newline, and the others begin one byte further.
use Rattle.std.proofs.Common.{◌≡◌, ◌+◌, ◌<◌, ◌∷◌, length, take, drop, refl, sym, ap, ◌∙◌, subst, arith, rules}
use Rattle.std.proofs.lemmas.Bool.Decides.{nat_tests}
use Rattle.text.specs.Texts.{lines_of}
use Rattle.text.proofs.Endings.{lines_next, get_rest}
use Rattle.text.proofs.lines.LinesIterator.next.Goals as goal

pub overflow_add-end : goal.overflow_add-end
overflow_add-end c = omega arith

pub returns : goal.returns
returns c =
    let bs = c.args.self.now.rest.now in
    let n = c.run_length-end.result in
    let rest = ap (λ r. r.now) c.unwrap_or-self.ensures ∙ get_rest bs (n + 1) c.get.result _ c.get.ensures.lookup refl in
    let full : 0 < length bs = grind (arith, nat_tests) in
    let e : lines_of bs ≡ take n bs ∷ lines_of c.unwrap_or-self.result.now =
    lines_next bs full ∙ ap (λ k. take k bs ∷ lines_of (drop (k + 1) bs)) (sym c.run_length-end.ensures.value) ∙ ap (λ z. take n bs ∷ lines_of z) (sym rest) in
    let left = lines_of c.unwrap_or-self.result.now in
    let fewer : length left < length (lines_of bs) = subst (λ ls. length left < length ls) (sym e) (omega arith) in
    record { steps = e; goes = search (fewer, rules) }

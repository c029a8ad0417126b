-- The fold over all lines is that over the whole list; the laws follow for it, and it is the same wherever it starts alike.
use Rattle.std.proofs.Common.{◌≡◌, sym, ap, ◌∙◌, arith}
use Rattle.std.proofs.lemmas.List.{take_all}
use Rattle.keylines.specs.Sheets.{worked_on}
use Rattle.keys.specs.Views.{sheet_now, table_capacity}
use Rattle.keylines.proofs.Histories.{lawful_on}
use Rattle.keys.proofs.sheet.KeySheet.apply_all.Goals as goal

pub returns : goal.returns
returns g c =
    let k = g.K.Key.alike in
    let size = table_capacity c.args.table.now in
    let s = sheet_now c.args.table.now c.args.self.now in
    let t = sheet_now c.loop-line.table c.loop-line.self in
    let ls = c.args.lines.now in
    let done : t ≡ worked_on k size s ls = c.loop-line.invariant.0 ∙ ap (worked_on k size s) (take_all c.loop-line.line-index ls (omega arith)) in
    record {
      after = done;
      slice = c.loop-line.invariant.1;
      law = λ before e. lawful_on k g.met.K.Key.exact g.met.K.Key.itself size before ls s t e done;
      equal = λ u u' v v' e f h. h ∙ ap (λ m. worked_on k m (sheet_now u v) ls) e ∙ ap (λ x. worked_on k size x ls) f ∙ sym done;
    }

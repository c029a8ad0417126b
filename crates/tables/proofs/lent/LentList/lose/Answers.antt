-- The last item is written over the lost one, and the list ends before it.
use Rattle.std.proofs.Common.{◌≡◌, ◌+◌, ◌-◌, min, length, set, take, drop, Some, sym, ap, ◌∙◌, arith}
use Rattle.std.proofs.Math.Seq.{take-set-lt}
use Rattle.std.proofs.lemmas.List.{length-take, take-take, drop-drop, drop-set-lt, drop_min}
use Rattle.protocol.specs.Items.{item_at}
use Rattle.protocol.specs.Store.{lost_at}
use Rattle.tables.proofs.lent.LentList.lose.Goals as goal

pub returns-clause-items : goal.returns-clause-items
returns-clause-items g c =
    let t = c.args.self.now.table.now in
    let len = c.args.self.now.len in
    let m = c.args.m in
    let x = c.get.result in
    let n = c.len-last.ensures in
    let e = length-take len t in
    let item : item_at (take len t) (length (take len t) - 1) ≡ Some x = ap (λ i. item_at (take len t) (i - 1)) (sym n) ∙ c.get.ensures in
    sym (take-take (c.len-last.result - 1) len (set t m x) (omega arith)) ∙ ap (take (c.len-last.result - 1)) (take-set-lt len t m x (omega arith))
    ∙ ap (λ i. take (i - 1) (set (take len t) m x)) n ∙ ap (λ o. lost_at o m (take len t)) (sym item)

pub returns-clause-free : goal.returns-clause-free
returns-clause-free g c =
    let t = c.args.self.now.table.now in
    let len = c.args.self.now.len in
    let x = c.get.result in
    let e = length-take len t in
    let n : c.len-last.result - 1 + 1 ≡ min len (length t) = omega (arith, c.len-last.ensures) in
    drop-drop 1 (c.len-last.result - 1) (set t c.args.m x) ∙ ap (λ i. drop i (set t c.args.m x)) n
    ∙ drop-set-lt (min len (length t)) t c.args.m x (omega arith) ∙ drop_min len t

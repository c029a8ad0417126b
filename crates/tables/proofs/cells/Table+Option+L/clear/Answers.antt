-- One cell more in each turn, by whether its line is in the set.
use Rattle.std.proofs.Common.{◌≡◌, ◌+◌, ◌-◌, ◌*◌, drop, sym, ap, ◌∙◌, arith, length-take, length-drop}
use Rattle.std.proofs.lemmas.List.{set-get_or}
use borrow.Rule.Slice.PartMut.{put_mid}
use Rattle.protocol.specs.Store.{cleared}
use Rattle.tables.proofs.Rows.{cleared_none, cleared_kept, cleared_gone}
use Rattle.tables.proofs.cells.Table+Option+L.clear.Goals as goal
use Rattle.tables.proofs.cells.Table+Option+L.clear.Goals.{then-not-has, else-not-has}

pub loop-i-init : goal.loop-i-init
loop-i-init g c = cleared_none c.args.carried c.args.w _ c.args.self.now.all.now

pub loop-i-preserved : goal.loop-i-preserved
loop-i-preserved g c =
    let w = c.args.w in
    let i = c.loop-i.i in
    let cells = c.args.self.now.all.now in
    elim c.if-not-has.branch [
      | then-not-has v ↦ ap (put_mid (64 * w) (64 * w + 64 - 64 * w) cells) v.row-is
          ∙ cleared_gone c.args.carried w i _ cells c.loop-i.row (omega arith) (omega arith) c.loop-i.invariant (sym c.has.ensures ∙ v.if-not-has.true)
      | else-not-has v ↦ ap (put_mid (64 * w) (64 * w + 64 - 64 * w) cells) (v.row-is ∙ set-get_or c.loop-i.row i _)
          ∙ c.loop-i.invariant ∙ sym (cleared_kept c.args.carried w i cells (sym c.has.ensures ∙ v.if-not-has.false))
    ]

pub returns-clause-cells : goal.returns-clause-cells
returns-clause-cells g c =
    let w = c.args.w in
    let cells = c.args.self.now.all.now in
    let a = length-take (64 * w + 64 - 64 * w) (drop (64 * w) cells) in
    let b = length-drop (64 * w) cells in
    let e : c.loop-i.i ≡ 64 = omega arith in
    c.loop-i.invariant ∙ ap (λ n. cleared c.args.carried w n cells) e

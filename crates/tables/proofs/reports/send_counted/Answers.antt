-- One cell more in each turn; the room that was asked for is enough for all of them.
use Rattle.std.proofs.Common.{◌≡◌, ◌+◌, ◌*◌, ◌<◌, [], ◌∷◌, ◌++◌, length, refl, sym, ap, ◌∙◌, arith}
use Rattle.std.proofs.lemmas.List.{append-nil, append_assoc}
use Rattle.protocol.specs.declared.message.Message.TheVariants.{Report}
use Rattle.protocol.specs.Limits.{lines}
use Rattle.protocol.specs.Store.{lines_in, reports}
use Rattle.tables.specs.Views.{list_of}
use Rattle.tables.proofs.Counts.{lines_none, lines_some, lines-empty, lines_mono, reports-none, reports_some, reports-empty, reports_same, sent_length}
use Rattle.tables.proofs.Rows.{is_none, row_read}
use Rattle.tables.proofs.reports.send_counted.Goals as goal
use Rattle.tables.proofs.reports.send_counted.Goals.{in-Some, in_default}

pub loop-i-init : goal.loop-i-init
loop-i-init g c =
    let n = lines_none c.args.w c.args.cells.now.all.now in
    let p = c.requires.lines in
    record { items = simp (reports-none, append-nil); places = refl; left = omega arith }

pub push-requires : goal.push-requires
push-requires g c =
    let i = c.loop-i.i in
    let w = c.args.w in
    let cells = c.args.cells.now.all.now in
    let inv = c.loop-i.invariant in
    let r = row_read w i cells c.row-cell-items.result.now _ c.row-cell-items.ensures.cells (omega arith) c.cell-item.is in
    let m = lines_some w i cells _ c.in-Some.value (omega arith) r c.in-Some.is in
    let o = lines_mono w (i + 1) 64 cells (omega arith) in
    let n = sent_length w c.args.to c.args.epoch c.args.claim i cells _ _ inv.items in
    omega arith

pub loop-i-preserved : goal.loop-i-preserved
loop-i-preserved g c =
    let i = c.loop-i.i in
    let w = c.args.w in
    let cells = c.args.cells.now.all.now in
    let inv = c.loop-i.invariant in
    let r = row_read w i cells c.row-cell-items.result.now _ c.row-cell-items.ensures.cells (omega arith) c.cell-item.is in
    let old = list_of c.args.messages.now in
    let h : 64 * w + i < length cells = omega arith in
    elim c.match-cell.branch [
      | in-Some v ↦
          let e = reports_some w c.args.to c.args.epoch c.args.claim i cells _ v.in-Some.value h r v.in-Some.is in
          let one = Report w c.args.to c.args.epoch c.args.claim (i + 1) v.in-Some.value in
          let n = lines_some w i cells _ v.in-Some.value h r v.in-Some.is in
          rw v.messages-is record {
            items = v.push.ensures.items ∙ ap (λ q. q ++ one ∷ []) inv.items ∙ append_assoc old (reports w c.args.to c.args.epoch c.args.claim i cells) (one ∷ []) ∙ ap (λ q. old ++ q) (sym e);
            places = v.push.ensures.places ∙ inv.places;
            left = (let f = inv.left in let d = v.left-is in let t = c.if-left-eq0.false in omega arith);
          }
      | in_default v ↦
          let o = is_none c.cell-item.result v.in_default.not-Some in
          let e = reports-empty w c.args.to c.args.epoch c.args.claim i cells _ h r o in
          let n = lines-empty w i cells _ h r o in
          rw v.messages-is record {
            items = inv.items ∙ ap (λ q. old ++ q) (sym e);
            places = inv.places;
            left = (let f = inv.left in let d = v.left-is in omega arith);
          }
    ]

-- none is left, so the cells to come have none
pub returns-then-left-eq0-clause-items : goal.returns-then-left-eq0-clause-items
returns-then-left-eq0-clause-items g c =
    let i = c.loop-i.i in
    let w = c.args.w in
    let cells = c.args.cells.now.all.now in
    let inv = c.loop-i.invariant in
    let all : lines_in w lines cells ≡ lines_in w i cells = (let f = inv.left in let t = c.if-left-eq0.true in omega arith) in
    inv.items ∙ ap (λ q. list_of c.args.messages.now ++ q) (reports_same w c.args.to c.args.epoch c.args.claim i lines cells (omega arith) all)

pub returns-after-loop-i-clause-items : goal.returns-after-loop-i-clause-items
returns-after-loop-i-clause-items g c =
    let e : c.loop-i.i ≡ 64 = omega arith in
    c.loop-i.invariant.items ∙ ap (λ n. list_of c.args.messages.now ++ reports c.args.w c.args.to c.args.epoch c.args.claim n c.args.cells.now.all.now) e

-- The first gap is the end of the lines that are held, and where there is none, all lines are.
use Rattle.std.proofs.Common.{◌≡◌, is_none, unwrap_or, ◌+◌, ap, ap₂, ◌∙◌, subst, subst₂, arith}
use Rattle.std.proofs.iter.runs.Sources.{range_listed}
use Rattle.std.specs.Iterator.Runs.{ItemsCountUp}
use Rattle.roster.specs.declared.entry.Entry.{Entry}
use Rattle.roster.specs.Model.{RosterModel}
use Rattle.protocol.specs.Runs.{holds}
use Rattle.protocol.specs.Limits.{lines}
use Rattle.group.specs.Views.{store_of}
use Rattle.books.specs.Sheets.{HeldTo, held_to}
use Rattle.books.proofs.Holding.{held_before}
use Rattle.books.proofs.Seeking.{first_place}
use Rattle.books.proofs.held.held_to.Goals as goal

pub returns : goal.returns
returns g c =
    let run = c.position-gap.ensures.runs in
    let all = range_listed run.0 run.0.seen in
    let up : ItemsCountUp run.0 1 (lines + 1) = subst₂ (ItemsCountUp run.0) (all.2 ∙ ap (λ s. s.start) run.1) (all.3 ∙ ap (λ s. s.end) run.1) all.4 in
    let end : (m : RosterModel (Entry g.row.L.Denot)) → (unwrap_or c.position-gap.result lines ≡ held_to (store_of c.args.group.now m) c.args.worker) × HeldTo (store_of c.args.group.now m) c.args.worker (unwrap_or c.position-gap.result lines) =
    λ m. held_before (store_of c.args.group.now m) c.args.worker c.position-gap.result
    (first_place run.0 _ _ (λ k. is_none (holds (store_of c.args.group.now m) c.args.worker k)) lines c.position-gap.result run.2 up (λ x r t k. (ap₂ (λ a b. (a, b)) k.met.0.0 k.met.0.1, k.met.1 m))) in
    record {
      value = λ m. let p = c.unwrap_or.ensures ∙ (end m).0 in omega (arith, p);
      law = λ m. subst (HeldTo (store_of c.args.group.now m) c.args.worker) (let p = c.unwrap_or.ensures in omega (arith, p)) (end m).1;
    }

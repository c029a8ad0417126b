-- All lines are held, or one of them is missing, and stays missing to the end.
use Rattle.std.proofs.Common.{◌+◌, ◌<◌, is_some, ap₂, sym, refl, arith}
use Rattle.std.proofs.lemmas.Result.{err_from_is_err_and}
use Rattle.std.proofs.iter.runs.Sources.{inclusive_listed}
use Rattle.protocol.specs.Runs.{holds}
use Rattle.group.specs.Views.{store_of}
use Rattle.books.specs.Sheets.{no_sheet}
use Rattle.books.proofs.Gaps.{none_of}
use Rattle.books.proofs.Seeking.{counted, all_pass, one_fails}
use Rattle.books.proofs.Working.{all-worked, all_there, not_asked, one_missing}
use Rattle.books.proofs.ask.ask_to.Goals as goal

pub returns-in_err-ask : goal.returns-in_err-ask
returns-in_err-ask g c m =
    let p = err_from_is_err_and c.from_residual.result c.from_residual.ensures.1 in
    rw (p.1, p.2) (not_asked no_sheet (store_of c.args.group.now m) c.args.worker c.args.to _ (c.in_err-ask.ensures m))

pub returns-then-held : goal.returns-then-held
returns-then-held g c m =
    let run = c.all-held.ensures.runs in
    let range = c.new.ensures in
    all-worked no_sheet (store_of c.args.group.now m) c.args.worker c.args.to c.args.to tt (c.in_ok-ask.ensures m) refl
    (all_there (store_of c.args.group.now m) c.args.worker c.args.to
    (all_pass run.0 _ _ (λ k. is_some (holds (store_of c.args.group.now m) c.args.worker k)) c.args.to c.all-held.result run.2 c.if-held.true
    (counted run.0 _ c.args.to run.1 range.start range.end range.exhausted (inclusive_listed run.0 run.0.seen)) (λ x r t k. (ap₂ (λ a b. (a, b)) k.met.0.0 k.met.0.1, k.met.1 m))))

pub returns-else-held : goal.returns-else-held
returns-else-held g c m =
    let run = c.all-held.ensures.runs in
    let range = c.new.ensures in
    let gap = one_fails run.0 _ _ (λ k. is_some (holds (store_of c.args.group.now m) c.args.worker k)) c.args.to c.all-held.result run.2 c.if-held.false
    (counted run.0 _ c.args.to run.1 range.start range.end range.exhausted (inclusive_listed run.0 run.0.seen)) (λ x r t k. (ap₂ (λ a b. (a, b)) k.met.0.0 k.met.0.1, k.met.1 m)) in
    let within : gap.0 < c.args.to = gap.1 in
    one_missing no_sheet (store_of c.args.group.now m) c.args.worker (1 + gap.0) c.args.to (c.in_ok-ask.ensures m) (omega arith) (sym (none_of _ (sym gap.2))) (omega arith)

-- A turn works on by one line more; a line that is missing stays missing to the end.
use Rattle.std.proofs.Common.{◌≡◌, ◌+◌, ◌-◌, Ok, Err, sym, refl, ap, ◌∙◌, arith}
use Rattle.std.specs.Option.{ok_or}
use Rattle.std.proofs.lemmas.Result.{err_from_is_err_and}
use Rattle.pack.specs.Sheets.{applied}
use Rattle.pack.specs.Stored.{restored_of}
use Rattle.group.specs.Views.{store_of}
use Rattle.books.specs.declared.fault.SheetFault.TheVariants.{NotHeld}
use Rattle.books.specs.Sheets.{packs_of}
use Rattle.books.proofs.Working.{all-worked, not_asked, one_missing, packs_last, works_on}
use Rattle.books.proofs.packs.worked_out.Goals as goal

pub returns-in_err-ask : goal.returns-in_err-ask
returns-in_err-ask c m =
    let p = err_from_is_err_and c.from_residual.result c.from_residual.ensures.1 in
    rw (p.1, p.2) (not_asked packs_of (store_of c.args.group.now m) c.args.worker c.args.to _ (c.in_err-ask.ensures m))

pub returns-in_err-line : goal.returns-in_err-line
returns-in_err-line c m =
    let e = c.in_err-line.ensures in
    let p = err_from_is_err_and c.from_residual-in_err-line.result c.from_residual-in_err-line.ensures.1 in
    let told = e.value ∙ ap (λ o. ok_or o NotHeld) e.ok_part in
    let fault : c.in_err-line.field-0.0 ≡ NotHeld = cc in
    rw (p.1, p.2) (ap Err fault ∙ one_missing packs_of (store_of c.args.group.now m) c.args.worker c.loop-k.k c.args.to (c.in_ok-ask.ensures m) c.loop-k.auto.k (sym e.ok_part ∙ c.line.ensures m) (omega arith))

pub loop-k-preserved : goal.loop-k-preserved
loop-k-preserved c = record {
  within = omega arith;
  worked = λ m.
      ap Ok (c.apply.ensures.after ∙ ap (applied c.loop-k.sheet) c.into.ensures.value)
      ∙ works_on packs_of (λ s l. applied s (restored_of l)) packs_last (store_of c.args.group.now m) c.args.worker c.loop-k.k (c.loop-k.k + 1 - 1) c.loop-k.sheet c.in_ok-line.line c.loop-k.auto.k (omega arith) (c.loop-k.invariant.worked m) (sym c.in_ok-line.ensures.ok_part ∙ c.line.ensures m);
}

-- where there is no line to work out, and where the last one is worked out
pub returns-in_ok-ask : goal.returns-in_ok-ask
returns-in_ok-ask c m =
    all-worked packs_of (store_of c.args.group.now m) c.args.worker (c.loop-k.k - 1) c.args.to c.loop-k.sheet (c.in_ok-ask.ensures m) (omega arith) (c.loop-k.invariant.worked m)

pub returns-in_ok-line : goal.returns-in_ok-line
returns-in_ok-line c m =
    all-worked packs_of (store_of c.args.group.now m) c.args.worker c.args.to c.args.to c.apply.new.self (c.in_ok-ask.ensures m) refl
    (ap Ok (c.apply.ensures.after ∙ ap (applied c.loop-k.sheet) c.into.ensures.value)
    ∙ works_on packs_of (λ s l. applied s (restored_of l)) packs_last (store_of c.args.group.now m) c.args.worker c.loop-k.k c.args.to c.loop-k.sheet c.in_ok-line.line c.loop-k.auto.k (omega arith) (c.loop-k.invariant.worked m) (sym c.in_ok-line.ensures.ok_part ∙ c.line.ensures m))

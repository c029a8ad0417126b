-- The first two questions, from the number of workers that a group tells.
use Rattle.std.proofs.Common.{◌≡◌, ℕ, ◌<◌, ◌≤◌, Bool, true, false, cond, ltb, length, Some, None, Ok, Err, Result, sym, refl, ap, arith}
use Rattle.std.proofs.lemmas.Bool.{lt-ltb, le-ltb}
use Rattle.protocol.specs.Store.{Store, made_in}
use Rattle.group.specs.Views.{workers_in}
use Rattle.books.specs.declared.fault.SheetFault.{SheetFault}
use Rattle.books.specs.declared.fault.SheetFault.TheVariants.{Unmade, NoWorker}
use Rattle.books.specs.Sheets.{asked_of}

-- what is answered, by the answers to the two questions
abbrev answered : Bool → Bool → Result Unit SheetFault
answered made has = cond made (cond has (Ok tt) (Err NoWorker)) (Err Unmade)

module _ (w m : ℕ) where
  has_worker : (made : Bool) (n : ℕ) → Some n ≡ cond made (Some m) None → w < n → Ok tt ≡ answered made (ltb w m)
  has_worker true n e h = let same : n ≡ m = cc in ap (answered true) (sym (lt-ltb w m (omega arith)))
  has_worker false n e h = let z : ◌≡◌ {A = ℕ} 0 1 = cc in absurd (omega arith)

  lacks_worker : (made : Bool) (n : ℕ) → Some n ≡ cond made (Some m) None → n ≤ w → Err NoWorker ≡ answered made (ltb w m)
  lacks_worker true n e h = let same : n ≡ m = cc in ap (answered true) (sym (le-ltb w m (omega arith)))
  lacks_worker false n e h = let z : ◌≡◌ {A = ℕ} 0 1 = cc in absurd (omega arith)

  not_made : (made : Bool) → None ≡ cond made (Some m) None → Err Unmade ≡ answered made (ltb w m)
  not_made true e = let z : ◌≡◌ {A = ℕ} 0 1 = cc in absurd (omega arith)
  not_made false e = refl

module _ {L : Type 0} (g : Store L) (w : ℕ) where
  pub asked_yes : (n : ℕ) → Some n ≡ workers_in g → w < n → Ok tt ≡ asked_of g w
  asked_yes n e h = has_worker w (length g.workers) (made_in g) n e h

  pub asked_stranger : (n : ℕ) → Some n ≡ workers_in g → n ≤ w → Err NoWorker ≡ asked_of g w
  asked_stranger n e h = lacks_worker w (length g.workers) (made_in g) n e h

  pub asked_unmade : None ≡ workers_in g → Err Unmade ≡ asked_of g w
  asked_unmade e = not_made w (length g.workers) (made_in g) e

-- Equal sheets: workers that hold the lines 1 to j hold the same lines, so that what is worked out from them is equal.
use Rattle.std.proofs.Common.{◌≡◌, ℕ, Bool, List, Some, None, Ok, Err, Option, Result, sym, refl, ap, ◌∙◌, ok_or, arith}
use Rattle.std.specs.Result.{result_and}
use Rattle.protocol.specs.Faults.{told_of}
use Rattle.protocol.specs.Runs.{History, Run, book_to}
use Rattle.protocol.specs.Store.{Store}
use Rattle.protocol.proofs.Chain.{promises}
use Rattle.pack.specs.declared.stored.StoredPackLine.{StoredPackLine}
use Rattle.pack.specs.Sheets.{remaining_of}
use Rattle.keylines.specs.declared.lines.ChannelLine.{ChannelLine}
use Rattle.keylines.specs.Sheets.{sheet_of}
use Rattle.books.specs.declared.fault.SheetFault.{SheetFault}
use Rattle.books.specs.declared.fault.SheetFault.TheVariants.{NotHeld}
use Rattle.books.specs.Sheets.{EqualKeySheets, EqualPackSheets, asked_of, lines_to, packs_of, works_out}

module _ {L X : Type 0} (sheet : List L → X) where
  -- the lines behind a sheet that was answered
  behind : (w : ℕ) (q : Result Unit SheetFault) (o : Option (List L)) (s : X) → told_of w (works_out sheet (result_and q (ok_or o NotHeld))) ≡ Ok s → (ls : List L) × (o ≡ Some ls) × (sheet ls ≡ s)
  behind w (Err f) o s e = let z : ◌≡◌ {A = ℕ} 0 1 = cc in absurd (omega arith)
  behind w (Ok _) None s e = let z : ◌≡◌ {A = ℕ} 0 1 = cc in absurd (omega arith)
  behind w (Ok _) (Some ls) s e = (ls, refl, let same : sheet ls ≡ s = cc in same)

  sheets_equal : (g : Store L) (h : History L) → Run L g h → (w u j : ℕ) (s t : X)
      → told_of w (works_out sheet (lines_to g w j)) ≡ Ok s → told_of u (works_out sheet (lines_to g u j)) ≡ Ok t → s ≡ t
  sheets_equal g h r w u j s t p q =
      let a = behind w (asked_of g w) (book_to g w j) s p in
      let b = behind u (asked_of g u) (book_to g u j) t q in
      sym a.2 ∙ ap sheet ((promises L g h r).equal_sheets w u j a.0 b.0 a.1 b.1) ∙ b.2

pub equal_packs : (g : Store StoredPackLine) (w j : ℕ) → EqualPackSheets g w j
equal_packs g w j h r u s t p q =
    let e = sheets_equal packs_of g h r w u j s t p q in
    record { charge = ap (λ x. x.charge) e; remaining = ap remaining_of e; fit = ap (λ x. x.fit) e; unfit = ap (λ x. x.unfit) e }

pub equal_keys : {K : Type 0} (alike : K → K → Bool) (c : ℕ) (g : Store (ChannelLine K)) (w j : ℕ) → EqualKeySheets alike c g w j
equal_keys alike c g w j h r u s t p q =
    let e = sheets_equal (sheet_of alike c) g h r w u j s t p q in
    record { pairs = ap (λ x. x.pairs) e; fit = ap (λ x. x.fit) e; unfit = ap (λ x. x.unfit) e }

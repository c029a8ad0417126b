-- Sheets worked out line by line: the sheet of the lines so far, with one line more, is that of the longer book.
use Rattle.std.proofs.Common.{◌≡◌, ℕ, zero, suc, ◌+◌, ◌-◌, ◌<◌, ◌≤◌, true, List, [], ◌∷◌, ◌++◌, map, is_some, Some, None, Ok, Err, Option, sym, refl, ap, ◌∙◌, subst, ok_or, arith}
use Rattle.std.specs.Result.{result_and}
use Rattle.protocol.specs.Runs.{holds, joined, book_to}
use Rattle.protocol.specs.Store.{Store}
use Rattle.pack.specs.declared.sheet.PackSheet.{PackSheet}
use Rattle.pack.specs.declared.stored.StoredPackLine.{StoredPackLine}
use Rattle.pack.specs.Sheets.{applied, worked_on, empty_sheet}
use Rattle.pack.specs.Stored.{restored_of}
use Rattle.books.specs.declared.fault.SheetFault.{SheetFault}
use Rattle.books.specs.declared.fault.SheetFault.TheVariants.{NotHeld}
use Rattle.books.specs.Sheets.{asked_of, lines_to, no_sheet, packs_of, works_out}
use Rattle.books.proofs.Gaps.{one_more, stays_missing}

-- the sheet so far, where all lines so far are held
abbrev pub SoFar : {L X : Type 0} → (List L → X) → Store L → ℕ → ℕ → X → Type 0
SoFar sheet g w i s = Ok s ≡ works_out sheet (ok_or (book_to g w i) NotHeld)

module _ {L X : Type 0} (sheet : List L → X) where
  -- a step that works on by one line at the end
  joined_on : (next : X → L → X) → ((ls : List L) (a : L) → sheet (ls ++ (a ∷ [])) ≡ next (sheet ls) a)
      → (o : Option (List L)) (p : Option L) (s : X) (l : L) → Ok s ≡ works_out sheet (ok_or o NotHeld) → Some l ≡ p → Ok (next s l) ≡ works_out sheet (ok_or (joined o p) NotHeld)
  joined_on next last None p s l e f = let z : ◌≡◌ {A = ℕ} 0 1 = cc in absurd (omega arith)
  joined_on next last (Some ls) None s l e f = let z : ◌≡◌ {A = ℕ} 0 1 = cc in absurd (omega arith)
  joined_on next last (Some ls) (Some a) s l e f =
      let same : s ≡ sheet ls = cc in
      let line : l ≡ a = cc in
      ap (λ t. Ok (next t l)) same ∙ ap (λ b. Ok (next (sheet ls) b)) line ∙ ap Ok (sym (last ls a))

  pub works_on : (next : X → L → X) → ((ls : List L) (a : L) → sheet (ls ++ (a ∷ [])) ≡ next (sheet ls) a)
      → (g : Store L) (w k j : ℕ) (s : X) (l : L) → 0 < k → k ≡ j → SoFar sheet g w (k - 1) s → Some l ≡ holds g w k → SoFar sheet g w j (next s l)
  works_on next last g w k j s l p same e f =
      joined_on next last (book_to g w (k - 1)) (holds g w k) s l e f ∙ ap (λ o. works_out sheet (ok_or o NotHeld)) (sym (one_more g w k p) ∙ ap (book_to g w) same)

  -- what is answered: the sheet at the end, that a line is missing, or the fault of an earlier question
  pub all-worked : (g : Store L) (w i j : ℕ) (s : X) → Ok tt ≡ asked_of g w → i ≡ j → SoFar sheet g w i s → Ok s ≡ works_out sheet (lines_to g w j)
  all-worked g w i j s asked same e =
      e ∙ ap (λ k. works_out sheet (ok_or (book_to g w k) NotHeld)) same ∙ ap (λ q. works_out sheet (result_and q (ok_or (book_to g w j) NotHeld))) asked

  pub one_missing : (g : Store L) (w k j : ℕ) → Ok tt ≡ asked_of g w → 0 < k → None ≡ holds g w k → k ≤ j → Err NotHeld ≡ works_out sheet (lines_to g w j)
  one_missing g w k j asked p gone h =
      ap (λ o. works_out sheet (ok_or o NotHeld)) (sym (stays_missing g w k p gone j h)) ∙ ap (λ q. works_out sheet (result_and q (ok_or (book_to g w j) NotHeld))) asked

  pub not_asked : (g : Store L) (w j : ℕ) (f : SheetFault) → Err f ≡ asked_of g w → Err f ≡ works_out sheet (lines_to g w j)
  not_asked g w j f e = ap (λ q. works_out sheet (result_and q (ok_or (book_to g w j) NotHeld))) e

-- one line more is held
pub one_there : {L : Type 0} (g : Store L) (w k j : ℕ) (o : Option L) → 0 < k → k ≡ j → SoFar no_sheet g w (k - 1) tt → o ≡ holds g w k → is_some o ≡ true → SoFar no_sheet g w j tt
one_there g w k j None p same e f h = absurd (grind arith)
one_there g w k j (Some l) p same e f h = works_on no_sheet (λ _ _. tt) (λ _ _. refl) g w k j tt l p same e f

-- the first n lines are held
pub all_there : {L : Type 0} (g : Store L) (w n : ℕ) → ((k : ℕ) → k < n → true ≡ is_some (holds g w (1 + k))) → SoFar no_sheet g w n tt
all_there g w zero held = refl
all_there g w (suc i) held =
    let before : i ≡ suc i - 1 = omega arith in
    let last : 1 + i ≡ suc i = omega arith in
    one_there g w (suc i) (suc i) (holds g w (suc i)) (omega arith) refl (subst (λ n. SoFar no_sheet g w n tt) before (all_there g w i (λ k h. held k (omega arith)))) refl
    (sym (held i (omega arith) ∙ ap (λ k. is_some (holds g w k)) last))

packs_last_from : (s : PackSheet) (ls : List StoredPackLine) (a : StoredPackLine) → worked_on s (map restored_of (ls ++ (a ∷ []))) ≡ applied (worked_on s (map restored_of ls)) (restored_of a)
packs_last_from s [] a = refl
packs_last_from s (l ∷ ls) a = packs_last_from (applied s (restored_of l)) ls a

-- one stored line more at the end of a pack sheet's lines
pub packs_last : (ls : List StoredPackLine) (a : StoredPackLine) → packs_of (ls ++ (a ∷ [])) ≡ applied (packs_of ls) (restored_of a)
packs_last ls a = packs_last_from empty_sheet ls a

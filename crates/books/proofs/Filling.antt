-- A key table that is filled line by line holds the sheet of the lines so far, where they are all held.
use Rattle.std.proofs.Common.{◌≡◌, ℕ, ◌-◌, ◌<◌, Bool, List, [], ◌∷◌, ◌++◌, Some, None, Option, sym, refl, ap, ◌∙◌, arith}
use Rattle.std.proofs.lemmas.List.Sums.{fold-append}
use Rattle.protocol.specs.Runs.{holds, joined, book_to}
use Rattle.protocol.specs.Store.{Store}
use Rattle.keylines.specs.declared.lines.ChannelLine.{ChannelLine}
use Rattle.keylines.specs.Sheets.{Sheet, applied, sheet_of, empty_sheet}
use Rattle.books.proofs.Gaps.{one_more}

module _ {K : Type 0} (alike : K → K → Bool) (c : ℕ) where
  -- the sheet of the lines 1 to i, if they are all held
  abbrev pub Filled : Store (ChannelLine K) → ℕ → ℕ → Sheet K → Type 0
  Filled g w i s = (ls : List (ChannelLine K)) → book_to g w i ≡ Some ls → s ≡ sheet_of alike c ls

  joined_fill : (o : Option (List (ChannelLine K))) (p : Option (ChannelLine K)) (s t : Sheet K) (l : ChannelLine K) → ((ls : List (ChannelLine K)) → o ≡ Some ls → s ≡ sheet_of alike c ls) → Some l ≡ p → t ≡ applied alike c s l
      → (ls : List (ChannelLine K)) → joined o p ≡ Some ls → t ≡ sheet_of alike c ls
  joined_fill None p s t l before e step ls f = let z : ◌≡◌ {A = ℕ} 0 1 = cc in absurd (omega arith)
  joined_fill (Some bs) None s t l before e step ls f = let z : ◌≡◌ {A = ℕ} 0 1 = cc in absurd (omega arith)
  joined_fill (Some bs) (Some a) s t l before e step ls f =
      let line : l ≡ a = cc in
      let all : bs ++ (a ∷ []) ≡ ls = cc in
      step ∙ ap (λ x. applied alike c x l) (before bs refl) ∙ ap (applied alike c (sheet_of alike c bs)) line
      ∙ sym (fold-append (applied alike c) empty_sheet bs (a ∷ [])) ∙ ap (sheet_of alike c) all

  -- one line more is held, and applied to a table of the same capacity
  pub fill_more : (g : Store (ChannelLine K)) (w k j d : ℕ) (s t : Sheet K) (l : ChannelLine K) → 0 < k → k ≡ j → Filled g w (k - 1) s → Some l ≡ holds g w k → d ≡ c → t ≡ applied alike d s l → Filled g w j t
  fill_more g w k j d s t l p last before e same step ls f =
      joined_fill (book_to g w (k - 1)) (holds g w k) s t l before e (step ∙ ap (λ n. applied alike n s l) same) ls (sym (one_more g w k p) ∙ ap (book_to g w) last ∙ f)

  -- a missing line: there is no such sheet
  pub fill_gap : (g : Store (ChannelLine K)) (w k j : ℕ) (s : Sheet K) → 0 < k → k ≡ j → None ≡ holds g w k → Filled g w j s
  fill_gap g w k j s p last e ls f =
      let none : joined (book_to g w (k - 1)) None ≡ Some ls = ap (joined (book_to g w (k - 1))) e ∙ sym (one_more g w k p) ∙ ap (book_to g w) last ∙ f in
      absurd (no_join (book_to g w (k - 1)) ls none)
    where
      no_join : (o : Option (List (ChannelLine K))) (ls : List (ChannelLine K)) → joined o None ≡ Some ls → ⊥
      no_join None ls h = let z : ◌≡◌ {A = ℕ} 0 1 = cc in omega arith
      no_join (Some bs) ls h = let z : ◌≡◌ {A = ℕ} 0 1 = cc in omega arith

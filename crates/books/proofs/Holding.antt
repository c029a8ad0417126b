-- How far the lines of a worker go without a gap: line by line, with the lines so far all held.
use Rattle.std.proofs.Common.{◌≡◌, ℕ, zero, suc, ◌+◌, ◌-◌, ◌<◌, ◌≤◌, Bool, true, false, cond, List, [], ◌∷◌, ◌++◌, MatchOption, is_none, is_some, unwrap_or, Some, None, Option, sym, refl, ap, ◌∙◌, subst, ap₂, add-one, arith}
use Rattle.protocol.specs.Limits.{lines}
use Rattle.protocol.specs.Lines.{in_book}
use Rattle.protocol.specs.Runs.{holds, joined, book_to}
use Rattle.protocol.specs.Store.{Store, made_in, cell_at}
use Rattle.books.specs.Sheets.{HeldTo, goes_on, held_from, held_to}

module _ {L : Type 0} (g : Store L) (w : ℕ) where
  -- the first i lines are held, and what follows them is looked for from there
  pub record Reached (i : ℕ) : Type 0 where
    pub book : List L
    pub all : book_to g w i ≡ Some book
    pub rest : held_from g w (lines - i) i ≡ held_to g w

  pub at_start : Reached 0
  at_start = record { book = []; all = refl; rest = refl }

  more : (n i : ℕ) (l : L) → 0 < n → holds g w (suc i) ≡ Some l → held_from g w n i ≡ held_from g w (n - 1) (suc i)
  unfolding held_from
  more zero i l h e = absurd (omega arith)
  more (suc n) i l h e = let same : n ≡ suc n - 1 = omega arith in ap (λ o. goes_on o (held_from g w n (i + 1)) i) (ap (holds g w) (add-one i) ∙ e) ∙ ap₂ (held_from g w) same (add-one i)

  stop : (n i : ℕ) → holds g w (i + 1) ≡ None → held_from g w n i ≡ i
  unfolding held_from
  stop zero i e = refl
  stop (suc n) i e = ap (λ o. goes_on o (held_from g w n (i + 1)) i) e

  pub one-held : (k j : ℕ) (o : Option L) → 0 < k → k ≤ lines → k ≡ j → Reached (k - 1) → o ≡ holds g w k → is_some o ≡ true → Reached j
  one-held zero j o p h same r e f = absurd (omega arith)
  one-held (suc i) j None p h same r e f = absurd (grind arith)
  one-held (suc i) j (Some l) p h same r e f =
      let before : suc i - 1 ≡ i = omega arith in
      let so_far = subst Reached before r in
      let left : lines - suc i ≡ lines - i - 1 = omega arith in
      subst Reached same (record {
        book = so_far.book ++ (l ∷ []);
        all = ap (λ o. joined o (holds g w (suc i))) so_far.all ∙ ap (joined (Some so_far.book)) (sym e);
        rest = ap (λ n. held_from g w n (suc i)) left ∙ sym (more (lines - i) i l (omega arith) (sym e)) ∙ so_far.rest;
      })

  -- where the next line is missing
  pub ended : (i : ℕ) → Reached i → holds g w (i + 1) ≡ None → (i ≡ held_to g w) × HeldTo g w i
  ended i r e = (sym (stop (lines - i) i e) ∙ r.rest, record { book = r.book; all = r.all; end = e })

  -- no line follows the last one of a book
  pub past_book : holds g w (lines + 1) ≡ None
  past_book = past (made_in g)
    where
      past : (made : Bool) → cond made (cond (in_book (lines + 1)) (cell_at g.learned w (lines + 1)) None) None ≡ None
      past true = refl
      past false = refl

  -- the lines before the first gap are held
  reached : (i : ℕ) → i ≤ lines → ((k : ℕ) → k < i → false ≡ is_none (holds g w (1 + k))) → Reached i
  reached zero l held = at_start
  reached (suc i) l held =
      let before : i ≡ suc i - 1 = omega arith in
      let last : 1 + i ≡ suc i = omega arith in
      one-held (suc i) (suc i) (holds g w (suc i)) (omega arith) l refl (subst Reached before (reached i (omega arith) (λ k h. held k (omega arith)))) refl
      (there (holds g w (suc i)) (held i (omega arith) ∙ ap (λ k. is_none (holds g w k)) last))
    where
      there : (o : Option L) → false ≡ is_none o → is_some o ≡ true
      there None e = absurd (grind arith)
      there (Some x) e = refl

  -- what a search for the first gap found
  abbrev pub FirstGap : Option ℕ → Type 0
  FirstGap r = MatchOption r ((k : ℕ) → k < lines → false ≡ is_none (holds g w (1 + k))) (λ i. (i < lines) × (true ≡ is_none (holds g w (1 + i))) × ((k : ℕ) → k < i → false ≡ is_none (holds g w (1 + k))))

  pub held_before : (r : Option ℕ) → FirstGap r → (unwrap_or r lines ≡ held_to g w) × HeldTo g w (unwrap_or r lines)
  held_before None h = ended lines (reached lines (omega arith) h) past_book
  held_before (Some i) h =
      let next : 1 + i ≡ i + 1 = omega arith in
      ended i (reached i (omega (arith, h.0)) h.2) (gone (holds g w (i + 1)) (h.1 ∙ ap (λ k. is_none (holds g w k)) next))
    where
      gone : (o : Option L) → true ≡ is_none o → o ≡ None
      gone None e = refl
      gone (Some x) e = absurd (grind arith)

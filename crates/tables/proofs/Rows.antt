-- What the definitions say of the cells of a worker, by the row of these cells.
use Rattle.std.proofs.Common.{◌≡◌, ℕ, zero, suc, ◌+◌, ◌-◌, ◌*◌, ◌<◌, ◌≤◌, Bool, true, false, cond, ◌&&◌, List, [], ◌∷◌, ◌++◌, length, take, drop, get_or, set, Some, None, Option, add-one, add-zero, sym, refl, ap, ◌∙◌, ap₂, arith, length-drop, length-take}
use borrow.Rule.Slice.PartMut.{put_mid, post_of, put_same}
use Rattle.std.proofs.lemmas.Bool.{cond-true, cond-false}
use Rattle.std.proofs.lemmas.List.{take_more, get_or-drop, get_or-take, set-append_left, set-append_right, length-take-le}
use Rattle.std.proofs.lemmas.List.Filters.{length-filter_more}
use Rattle.std.specs.Prelude.{filter}
use Rattle.std.specs.List.{list_all, enumerate_from}
use Rattle.std.specs.Option.{is_some}
use Rattle.protocol.specs.Lines.{marked}
use Rattle.protocol.specs.Store.{all_marked, cleared, held, lines_in}

module _ {L : Type 0} where
  pub is_none : (o : Option L) → ((l : L) → o ≡ Some l → ⊥) → o ≡ None
  is_none None h = refl
  is_none (Some l) h = absurd (h l refl)

  -- a cell that was read in the row is the table's
  pub row_read : (w n : ℕ) (cells row : List (Option L)) (x : Option L) → row ≡ take 64 (drop (64 * w) cells) → n < 64 → x ≡ get_or row n x → x ≡ get_or cells (64 * w + n) x
  row_read w n cells row x e b r = r ∙ ap (λ xs. get_or xs n x) e ∙ get_or-take 64 (drop (64 * w) cells) n x b ∙ get_or-drop (64 * w) cells n x

  -- the lines in the first n cells are those of the row's first n
  pub lines_row : (w n : ℕ) (cells : List (Option L)) → 64 * w + n ≤ length cells → lines_in w n cells ≡ length (filter is_some (take n (drop (64 * w) cells)))
  unfolding lines_in
  lines_row w zero cells h = refl
  lines_row w (suc n) cells h =
      let row = drop (64 * w) cells in
      let b : n < length row = omega (arith, length-drop (64 * w) cells) in
      ap₂ (λ a b. a + b) (lines_row w n cells (omega arith)) (ap held (sym (get_or-drop (64 * w) cells n None)) ∙ one (get_or row n None))
      ∙ sym (length-filter_more is_some row n None b) ∙ ap (λ k. length (filter is_some (take k row))) (add-one n)
    where
      one : (o : Option L) → held o ≡ cond (is_some o) 1 0
      one None = refl
      one (Some l) = refl

  -- whether a cell is empty or its line marked, by its place in the row
  abbrev pub passes : ℕ → ℕ × Option L → Bool
  passes c (i, o) = cond (is_some o) (marked c (i + 1)) true

  -- a walk over one cell more
  all_more : (t : ℕ × Option L → Bool) (s : ℕ) (xs : List (Option L)) (y : Option L) → list_all t (enumerate_from s (xs ++ y ∷ [])) ≡ t (s + length xs, y) && list_all t (enumerate_from s xs)
  all_more t s [] y = ap (λ k. t (k, y) && true) (sym (add-zero s))
  all_more t s (x ∷ xs) y =
      ap (λ q. t (s, x) && q) (all_more t (s + 1) xs y) ∙ ap (λ k. t (s, x) && (t (k, y) && list_all t (enumerate_from (s + 1) xs))) (let e : s + 1 + length xs ≡ s + suc (length xs) = omega arith in e)
      ∙ swapped (t (s, x)) (t (s + suc (length xs), y)) (list_all t (enumerate_from (s + 1) xs))
    where
      swapped : (a b d : Bool) → a && (b && d) ≡ b && (a && d)
      swapped true b d = refl
      swapped false true d = refl
      swapped false false d = refl

  -- a walk over the row's first n cells tests that all are marked
  pub marks_row : (c w n : ℕ) (cells : List (Option L)) → 64 * w + n ≤ length cells → list_all (passes c) (enumerate_from 0 (take n (drop (64 * w) cells))) ≡ all_marked c w n cells
  unfolding all_marked
  marks_row c w zero cells h = refl
  marks_row c w (suc n) cells h =
      let row = drop (64 * w) cells in
      let b : n < length row = omega (arith, length-drop (64 * w) cells) in
      let e : 0 + length (take n row) ≡ n = omega (arith, length-take n row) in
      ap (λ xs. list_all (passes c) (enumerate_from 0 xs)) (ap (λ k. take k row) (sym (add-one n)) ∙ take_more row n None b)
      ∙ all_more (passes c) 0 (take n row) (get_or row n None)
      ∙ ap₂ (λ a d. a && d) (ap (λ k. passes c (k, get_or row n None)) e ∙ ap (λ o. cond (is_some o) (marked c (n + 1)) true) (get_or-drop (64 * w) cells n None)) (marks_row c w n cells (omega arith))

  -- a write in a part, and in the whole
  part_set : (a k j : ℕ) (xs ys : List (Option L)) (o : Option L) → a ≤ length xs → j < length ys → put_mid a k xs (set ys j o) ≡ set (put_mid a k xs ys) (a + j) o
  part_set a k j xs ys o h b =
      let e : a + j - a ≡ j = omega arith in
      ap (λ zs. take a xs ++ zs) (sym (set-append_left ys (post_of a k xs) j o b) ∙ ap (λ i. set (ys ++ post_of a k xs) i o) (sym e))
      ∙ sym (set-append_right (take a xs) (ys ++ post_of a k xs) a (a + j) o (length-take-le a xs h) (omega arith))

  -- a table whose row is cleared so far, with one cell more
  pub cleared_none : (m w k : ℕ) (cells : List (Option L)) → put_mid (64 * w) k cells (take k (drop (64 * w) cells)) ≡ cleared m w 0 cells
  unfolding cleared
  cleared_none m w k cells = put_same (64 * w) k cells

  pub cleared_kept : (m w n : ℕ) (cells : List (Option L)) → marked m (n + 1) ≡ true → cleared m w (n + 1) cells ≡ cleared m w n cells
  unfolding cleared
  cleared_kept m w n cells h = ap (λ k. cleared m w k cells) (add-one n) ∙ cond-true (marked m (n + 1)) _ _ h

  pub cleared_gone : (m w n k : ℕ) (cells row : List (Option L)) → 64 * w ≤ length cells → n < length row → put_mid (64 * w) k cells row ≡ cleared m w n cells → marked m (n + 1) ≡ false → put_mid (64 * w) k cells (set row n None) ≡ cleared m w (n + 1) cells
  unfolding cleared
  cleared_gone m w n k cells row h b e f =
      part_set (64 * w) k n cells row None h b ∙ ap (λ xs. set xs (64 * w + n) None) e
      ∙ sym (ap (λ k. cleared m w k cells) (add-one n) ∙ cond-false (marked m (n + 1)) _ _ f)

-- A put by the three ways: the key is held, a place is free, all are taken.
use Rattle.std.proofs.Common.{◌≡◌, ℕ, ◌<◌, ◌≤◌, Bool, true, false, cond, is_some, inl, inr, List, [], ◌∷◌, ◌++◌, length, take, set, Some, None, refl, sym, ap, ◌∙◌, arith, position}
use Rattle.std.proofs.Math.Seq.{take-set-lt}
use Rattle.std.proofs.lemmas.List.{length-take-le}
use Rattle.std.proofs.lemmas.Bool.{lt-ltb, le-ltb, cases_lt}
use Rattle.keylines.specs.declared.lines.Pair.{Pair}
use Rattle.keylines.specs.Pairs.{with_words, place_of, holds, room_for, put_pairs}

module _ {K : Type 0} (alike : K → K → Bool) (c : ℕ) (k : K) (w : List ℕ) (ps : List (Pair K)) where
  pub put_held : place_of alike k ps < length ps → (room_for alike c k ps ≡ true) × (put_pairs alike c k w ps ≡ set ps (place_of alike k ps) (with_words k w))
  put_held h = let e = lt-ltb (place_of alike k ps) (length ps) h in (rw e refl, rw e refl)

  pub put_new : length ps ≤ place_of alike k ps → length ps < c → (room_for alike c k ps ≡ true) × (put_pairs alike c k w ps ≡ ps ++ (with_words k w ∷ []))
  put_new h l =
      let e = le-ltb (place_of alike k ps) (length ps) h in
      let f = lt-ltb (length ps) c l in (rw (e, f) refl, rw (e, f) refl)

  pub put_full : length ps ≤ place_of alike k ps → c ≤ length ps → (room_for alike c k ps ≡ false) × (put_pairs alike c k w ps ≡ ps)
  put_full h l =
      let e = le-ltb (place_of alike k ps) (length ps) h in
      let f = le-ltb (length ps) c l in (rw (e, f) refl, rw (e, f) refl)

module _ {K : Type 0} (alike : K → K → Bool) (k : K) where
  -- a key is held exactly where the search gave a place
  pub is_some-position : (ps : List (Pair K)) → is_some (position (λ p. alike p.key k) ps) ≡ holds alike k ps
  is_some-position ps = elim (holds alike k ps) as (λ b. is_some (cond b (Some (place_of alike k ps)) None) ≡ b) [ true ↦ refl | false ↦ refl ]

  -- the place that a search gave
  pub at_place : (ps : List (Pair K)) (i : ℕ) → Some i ≡ position (λ p. alike p.key k) ps → (i ≡ place_of alike k ps) × (place_of alike k ps < length ps)
  at_place ps i e =
      elim (cases_lt (place_of alike k ps) (length ps)) [
        | inl h ↦ let f : Some i ≡ Some (place_of alike k ps) = e ∙ ap (λ b. cond b (Some (place_of alike k ps)) None) (lt-ltb (place_of alike k ps) (length ps) h) in (cc, h)
        | inr h ↦ let f : Some i ≡ None = e ∙ ap (λ b. cond b (Some (place_of alike k ps)) None) (le-ltb (place_of alike k ps) (length ps) h) in absurd (grind arith)
      ]

  -- a put over the pair with its key, in the first n places
  pub put_over : (c : ℕ) (w : List ℕ) (xs : List (Pair K)) (n i : ℕ) → n ≤ length xs → Some i ≡ position (λ p. alike p.key k) (take n xs) → take n (set xs i (with_words k w)) ≡ put_pairs alike c k w (take n xs)
  put_over c w xs n i l e =
      let a = at_place (take n xs) i e in
      let s = length-take-le n xs l in
      take-set-lt n xs i (with_words k w) (omega arith)
      ∙ ap (λ m. set (take n xs) m (with_words k w)) a.0
      ∙ sym (put_held alike c k w (take n xs) a.1).1

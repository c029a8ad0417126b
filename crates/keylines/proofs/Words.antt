-- A put and an erase keep the keys distinct and change the words of their own key alone, by induction over the pairs.
use Rattle.std.proofs.Common.{◌≡◌, ℕ, suc, ◌<◌, Bool, true, false, cond, not, ◌+◌, ◌⊎◌, List, [], ◌∷◌, ◌++◌, length, get_or, set, Some, None, Option, option_map, find, sym, refl, ap, ◌∙◌, subst, inl, inr, arith}
use Rattle.std.proofs.lemmas.List.{get_or_past}
use Rattle.std.proofs.lemmas.List.Folds.{find-set, find_past}
use Rattle.std.proofs.lemmas.List.Sums.{passes_at_first}
use Rattle.std.proofs.lemmas.Bool.{lt-ltb, le-ltb, cases_lt, cases_Bool, both_ways}
use Rattle.keylines.specs.declared.lines.Pair.{Pair}
use Rattle.keylines.specs.Pairs.{with_words, place_of, room_for, put_pairs, closed, erased_pairs, words_of}
use Rattle.keylines.specs.Laws.{Present, DistinctKeys, PutLaw, EraseLaw}
use Rattle.keylines.proofs.Closing.{last_of, front_of, turned, closed_first, closed_later}
use Rattle.keylines.proofs.Puts.{put_held, put_new, put_full}

-- the words of a pair, or else of what was found
abbrev words_by : {K : Type 0} → Bool → Pair K → Option (Pair K) → Option (List ℕ)
words_by b p o = option_map (λ r. r.words) (cond b (Some p) o)

module _ {K : Type 0} (alike : K → K → Bool) (exact : (x y : K) → alike x y ≡ true → x ≡ y) (itself : (x : K) → alike x x ≡ true) where
  yes_alike : (x y : K) → x ≡ y → alike x y ≡ true
  yes_alike x y e = ap (λ z. alike x z) (sym e) ∙ itself x

  not_alike : (x y : K) → (x ≡ y → ⊥) → alike x y ≡ false
  not_alike x y n = elim (cases_Bool (alike x y)) [ inl t ↦ absurd (n (exact x y t)) | inr f ↦ f ]

  pub same_or_not : (x y : K) → (x ≡ y) ⊎ (x ≡ y → ⊥)
  same_or_not x y =
      elim (cases_Bool (alike x y)) [ inl t ↦ inl (exact x y t) | inr f ↦ inr (λ e. both_ways (alike x y) f (yes_alike x y e)) ]

  -- one pair in front
  place_here : (k : K) (p : Pair K) (ps : List (Pair K)) → p.key ≡ k → place_of alike k (p ∷ ps) ≡ 0
  place_here k p ps e = ap (λ b. cond (not b) (1 + place_of alike k ps) 0) (yes_alike p.key k e)

  place_there : (k : K) (p : Pair K) (ps : List (Pair K)) → (p.key ≡ k → ⊥) → place_of alike k (p ∷ ps) ≡ suc (place_of alike k ps)
  place_there k p ps n = let e = ap (λ b. cond (not b) (1 + place_of alike k ps) 0) (not_alike p.key k n) in omega (arith, e)

  words-here : (q : K) (p : Pair K) (ps : List (Pair K)) → p.key ≡ q → words_of alike q (p ∷ ps) ≡ Some p.words
  words-here q p ps e = ap (λ b. words_by b p (find (λ r. alike r.key q) ps)) (yes_alike p.key q e)

  words_there : (q : K) (p : Pair K) (ps : List (Pair K)) → (p.key ≡ q → ⊥) → words_of alike q (p ∷ ps) ≡ words_of alike q ps
  words_there q p ps n = ap (λ b. words_by b p (find (λ r. alike r.key q) ps)) (not_alike p.key q n)

  words_behind : (q : K) (p : Pair K) (ps qs : List (Pair K)) → words_of alike q ps ≡ words_of alike q qs → words_of alike q (p ∷ ps) ≡ words_of alike q (p ∷ qs)
  words_behind q p ps qs e =
      elim (alike p.key q) as (λ b. words_by b p (find (λ r. alike r.key q) ps) ≡ words_by b p (find (λ r. alike r.key q) qs)) [ true ↦ refl | false ↦ e ]

  -- a key is held exactly where it is present
  pub place-present : (k : K) (ps : List (Pair K)) → Present k ps → place_of alike k ps < length ps
  place-present k [] h = absurd h
  place-present k (p ∷ ps) h =
      elim (same_or_not p.key k) [
        | inl e ↦ let z = place_here k p ps e in omega arith
        | inr n ↦ elim h [ inl e ↦ absurd (n e) | inr t ↦ let z = place_there k p ps n in let i = place-present k ps t in omega arith ]
      ]

  pub present-place : (k : K) (ps : List (Pair K)) → place_of alike k ps < length ps → Present k ps
  present-place k [] h = absurd (omega arith)
  present-place k (p ∷ ps) h =
      elim (same_or_not p.key k) [
        | inl e ↦ inl e
        | inr n ↦ let z = place_there k p ps n in inr (present-place k ps (omega arith))
      ]

  pub words_missing : (k : K) (ps : List (Pair K)) → (Present k ps → ⊥) → words_of alike k ps ≡ None
  words_missing k [] n = refl
  words_missing k (p ∷ ps) n = words_there k p ps (λ e. n (inl e)) ∙ words_missing k ps (λ t. n (inr t))

  pub words-present : (k : K) (w : List ℕ) (ps : List (Pair K)) → words_of alike k ps ≡ Some w → Present k ps
  words-present k w [] h = absurd (grind arith)
  words-present k w (p ∷ ps) h =
      elim (same_or_not p.key k) [ inl e ↦ inl e | inr n ↦ inr (words-present k w ps (sym (words_there k p ps n) ∙ h)) ]

  -- new words at the place of a key
  module _ (k : K) (w : List ℕ) where
    set_words : (ps : List (Pair K)) → place_of alike k ps < length ps → words_of alike k (set ps (place_of alike k ps) (with_words k w)) ≡ Some w
    set_words ps h =
        ap (option_map (λ p. p.words)) (find-set (λ p. alike p.key k) ps (place_of alike k ps) (with_words k w) refl h (itself k))

    -- what is written over has the key
    key_there : (ps : List (Pair K)) → (get_or ps (place_of alike k ps) (with_words k w)).key ≡ k
    key_there ps =
        elim (cases_lt (place_of alike k ps) (length ps)) [
          | inl h ↦ exact _ _ (passes_at_first (λ p. alike p.key k) ps (with_words k w) h)
          | inr h ↦ ap (λ p. p.key) (get_or_past ps (place_of alike k ps) (with_words k w) h)
        ]

    set-others : (q : K) (ps : List (Pair K)) → (k ≡ q → ⊥) → words_of alike q (set ps (place_of alike k ps) (with_words k w)) ≡ words_of alike q ps
    set-others q ps d =
        ap (option_map (λ p. p.words))
        (find_past (λ p. alike p.key q) ps (place_of alike k ps) (with_words k w) (with_words k w)
        (not_alike (get_or ps (place_of alike k ps) (with_words k w)).key q (λ e. d (sym (key_there ps) ∙ e))) (not_alike k q d))

    set-present : (q : K) (ps : List (Pair K)) → Present q (set ps (place_of alike k ps) (with_words k w)) → Present q ps
    set-present q [] h = h
    set-present q (p ∷ ps) h =
        elim (same_or_not p.key k) [
          | inl e ↦ let t : Present q (with_words k w ∷ ps) = subst (λ m. Present q (set (p ∷ ps) m (with_words k w))) (place_here k p ps e) h in
              elim t [ inl f ↦ inl (e ∙ f) | inr g ↦ inr g ]
          | inr n ↦ let t : Present q (p ∷ set ps (place_of alike k ps) (with_words k w)) = subst (λ m. Present q (set (p ∷ ps) m (with_words k w))) (place_there k p ps n) h in
              elim t [ inl f ↦ inl f | inr g ↦ inr (set-present q ps g) ]
        ]

    set-distinct : (ps : List (Pair K)) → DistinctKeys ps → DistinctKeys (set ps (place_of alike k ps) (with_words k w))
    set-distinct [] d = d
    set-distinct (p ∷ ps) d =
        elim (same_or_not p.key k) [
          | inl e ↦ subst (λ m. DistinctKeys (set (p ∷ ps) m (with_words k w))) (sym (place_here k p ps e)) (subst (λ x. Present x ps → ⊥) e d.0, d.1)
          | inr n ↦ subst (λ m. DistinctKeys (set (p ∷ ps) m (with_words k w))) (sym (place_there k p ps n)) ((λ t. d.0 (set-present p.key ps t)), set-distinct ps d.1)
        ]

    -- a new pair behind the others
    push_words : (ps : List (Pair K)) → (Present k ps → ⊥) → words_of alike k (ps ++ (with_words k w ∷ [])) ≡ Some w
    push_words [] n = words-here k (with_words k w) [] refl
    push_words (p ∷ ps) n = words_there k p (ps ++ (with_words k w ∷ [])) (λ e. n (inl e)) ∙ push_words ps (λ t. n (inr t))

    push_others : (q : K) (ps : List (Pair K)) → (k ≡ q → ⊥) → words_of alike q (ps ++ (with_words k w ∷ [])) ≡ words_of alike q ps
    push_others q [] d = words_there q (with_words k w) [] d
    push_others q (p ∷ ps) d = words_behind q p (ps ++ (with_words k w ∷ [])) ps (push_others q ps d)

    push_present : (q : K) (ps : List (Pair K)) → Present q (ps ++ (with_words k w ∷ [])) → Present q ps ⊎ (k ≡ q)
    push_present q [] h = elim h [ inl e ↦ inr e | inr f ↦ absurd f ]
    push_present q (p ∷ ps) h =
        elim h [ inl e ↦ inl (inl e) | inr t ↦ elim (push_present q ps t) [ inl a ↦ inl (inr a) | inr b ↦ inr b ] ]

    push_distinct : (ps : List (Pair K)) → (Present k ps → ⊥) → DistinctKeys ps → DistinctKeys (ps ++ (with_words k w ∷ []))
    push_distinct [] n d = ((λ h. h), tt)
    push_distinct (p ∷ ps) n d = (
      (λ h. elim (push_present p.key ps h) [ inl a ↦ d.0 a | inr b ↦ n (inl (sym b)) ]),
      push_distinct ps (λ t. n (inr t)) d.1,
    )

    -- a put
    pub put_words : (c : ℕ) (ps : List (Pair K)) → room_for alike c k ps ≡ true → words_of alike k (put_pairs alike c k w ps) ≡ Some w
    put_words c ps room =
        elim (cases_lt (place_of alike k ps) (length ps)) [
          | inl h ↦ ap (words_of alike k) (put_held alike c k w ps h).1 ∙ set_words ps h
          | inr h ↦ elim (cases_lt (length ps) c) [
            | inl l ↦ ap (words_of alike k) (put_new alike c k w ps h l).1 ∙ push_words ps (λ t. let i = place-present k ps t in omega arith)
            | inr l ↦ absurd (both_ways (room_for alike c k ps) (put_full alike c k w ps h l).0 room)
          ]
        ]

    pub put_others : (c : ℕ) (q : K) (ps : List (Pair K)) → (k ≡ q → ⊥) → words_of alike q (put_pairs alike c k w ps) ≡ words_of alike q ps
    put_others c q ps d =
        elim (cases_lt (place_of alike k ps) (length ps)) [
          | inl h ↦ ap (words_of alike q) (put_held alike c k w ps h).1 ∙ set-others q ps d
          | inr h ↦ elim (cases_lt (length ps) c) [
            | inl l ↦ ap (words_of alike q) (put_new alike c k w ps h l).1 ∙ push_others q ps d
            | inr l ↦ ap (words_of alike q) (put_full alike c k w ps h l).1
          ]
        ]

    pub put_unfit : (c : ℕ) (ps : List (Pair K)) → room_for alike c k ps ≡ false → put_pairs alike c k w ps ≡ ps
    put_unfit c ps full =
        elim (cases_lt (place_of alike k ps) (length ps)) [
          | inl h ↦ absurd (both_ways (room_for alike c k ps) full (put_held alike c k w ps h).0)
          | inr h ↦ elim (cases_lt (length ps) c) [
            | inl l ↦ absurd (both_ways (room_for alike c k ps) full (put_new alike c k w ps h l).0)
            | inr l ↦ (put_full alike c k w ps h l).1
          ]
        ]

    pub put_distinct : (c : ℕ) (ps : List (Pair K)) → DistinctKeys ps → DistinctKeys (put_pairs alike c k w ps)
    put_distinct c ps d =
        elim (cases_lt (place_of alike k ps) (length ps)) [
          | inl h ↦ subst DistinctKeys (sym (put_held alike c k w ps h).1) (set-distinct ps d)
          | inr h ↦ elim (cases_lt (length ps) c) [
            | inl l ↦ subst DistinctKeys (sym (put_new alike c k w ps h l).1) (push_distinct ps (λ t. let i = place-present k ps t in omega arith) d)
            | inr l ↦ subst DistinctKeys (sym (put_full alike c k w ps h l).1) d
          ]
        ]

  -- a key that is held has room
  pub held_room : (c : ℕ) (k : K) (ps : List (Pair K)) → Present k ps → room_for alike c k ps ≡ true
  held_room c k ps h = (put_held alike c k [] ps (place-present k ps h)).0

  -- the last pair moved to the front: two neighbours change places at each step
  words_swap : (q : K) (x y : Pair K) (ps : List (Pair K)) → (x.key ≡ y.key → ⊥) → words_of alike q (x ∷ y ∷ ps) ≡ words_of alike q (y ∷ x ∷ ps)
  words_swap q x y ps d =
      elim (same_or_not x.key q) [
        | inl e ↦ words-here q x (y ∷ ps) e ∙ sym (words_there q y (x ∷ ps) (λ f. d (e ∙ sym f)) ∙ words-here q x ps e)
        | inr n ↦ words_there q x (y ∷ ps) n ∙ words_behind q y ps (x ∷ ps) (sym (words_there q x ps n))
      ]

  turned_present : (q : K) (ps : List (Pair K)) → Present q (turned ps) → Present q ps
  turned_present q [] h = h
  turned_present q (y ∷ []) h = h
  turned_present q (y ∷ z ∷ zs) h =
      elim h [
        | inl e ↦ inr (turned_present q (z ∷ zs) (inl e))
        | inr t ↦ elim t [ inl e ↦ inl e | inr r ↦ inr (turned_present q (z ∷ zs) (inr r)) ]
      ]

  turned_words : (q : K) (ps : List (Pair K)) → DistinctKeys ps → words_of alike q (turned ps) ≡ words_of alike q ps
  turned_words q [] d = refl
  turned_words q (y ∷ []) d = refl
  turned_words q (y ∷ z ∷ zs) d =
      words_swap q (last_of z zs) y (front_of z zs) (λ e. d.0 (turned_present y.key (z ∷ zs) (inl e)))
      ∙ words_behind q y (turned (z ∷ zs)) (z ∷ zs) (turned_words q (z ∷ zs) d.1)

  turned_distinct : (ps : List (Pair K)) → DistinctKeys ps → DistinctKeys (turned ps)
  turned_distinct [] d = d
  turned_distinct (y ∷ []) d = d
  turned_distinct (y ∷ z ∷ zs) d =
      let i : DistinctKeys (turned (z ∷ zs)) = turned_distinct (z ∷ zs) d.1 in (
        (λ h. elim h [ inl e ↦ d.0 (turned_present y.key (z ∷ zs) (inl (sym e))) | inr t ↦ i.0 t ]),
        ((λ t. d.0 (turned_present y.key (z ∷ zs) (inr t))), i.1),
      )

  -- an erase, one pair in front
  erased_here : (k : K) (p : Pair K) (ps : List (Pair K)) → p.key ≡ k → erased_pairs alike k (p ∷ ps) ≡ turned ps
  erased_here k p ps e =
      let z = place_here k p ps e in
      ap (λ b. cond b (closed (place_of alike k (p ∷ ps)) (p ∷ ps)) (p ∷ ps)) (lt-ltb (place_of alike k (p ∷ ps)) (suc (length ps)) (omega arith))
      ∙ ap (λ m. closed m (p ∷ ps)) z
      ∙ closed_first p ps

  erased_there : (k : K) (p : Pair K) (ps : List (Pair K)) → (p.key ≡ k → ⊥) → erased_pairs alike k (p ∷ ps) ≡ p ∷ erased_pairs alike k ps
  erased_there k p ps n =
      let z = place_there k p ps n in
      elim (cases_lt (place_of alike k ps) (length ps)) [
        | inl h ↦ ap (λ b. cond b (closed (place_of alike k (p ∷ ps)) (p ∷ ps)) (p ∷ ps)) (lt-ltb (place_of alike k (p ∷ ps)) (suc (length ps)) (omega arith))
            ∙ ap (λ m. closed m (p ∷ ps)) z
            ∙ closed_later (place_of alike k ps) p ps h
            ∙ ap (λ b. p ∷ cond b (closed (place_of alike k ps) ps) ps) (sym (lt-ltb (place_of alike k ps) (length ps) h))
        | inr h ↦ ap (λ b. cond b (closed (place_of alike k (p ∷ ps)) (p ∷ ps)) (p ∷ ps)) (le-ltb (place_of alike k (p ∷ ps)) (suc (length ps)) (omega arith))
            ∙ ap (λ b. p ∷ cond b (closed (place_of alike k ps) ps) ps) (sym (le-ltb (place_of alike k ps) (length ps) h))
      ]

  pub erase_words : (k : K) (ps : List (Pair K)) → DistinctKeys ps → words_of alike k (erased_pairs alike k ps) ≡ None
  erase_words k [] d = refl
  erase_words k (p ∷ ps) d =
      elim (same_or_not p.key k) [
        | inl e ↦ ap (words_of alike k) (erased_here k p ps e) ∙ turned_words k ps d.1 ∙ words_missing k ps (λ t. d.0 (subst (λ x. Present x ps) (sym e) t))
        | inr n ↦ ap (words_of alike k) (erased_there k p ps n) ∙ words_there k p (erased_pairs alike k ps) n ∙ erase_words k ps d.1
      ]

  pub erase_others : (k q : K) (ps : List (Pair K)) → DistinctKeys ps → (k ≡ q → ⊥) → words_of alike q (erased_pairs alike k ps) ≡ words_of alike q ps
  erase_others k q [] d o = refl
  erase_others k q (p ∷ ps) d o =
      elim (same_or_not p.key k) [
        | inl e ↦ ap (words_of alike q) (erased_here k p ps e) ∙ turned_words q ps d.1 ∙ sym (words_there q p ps (λ f. o (sym e ∙ f)))
        | inr n ↦ ap (words_of alike q) (erased_there k p ps n) ∙ words_behind q p (erased_pairs alike k ps) ps (erase_others k q ps d.1 o)
      ]

  erase_present : (k q : K) (ps : List (Pair K)) → Present q (erased_pairs alike k ps) → Present q ps
  erase_present k q [] h = h
  erase_present k q (p ∷ ps) h =
      elim (same_or_not p.key k) [
        | inl e ↦ inr (turned_present q ps (subst (Present q) (erased_here k p ps e) h))
        | inr n ↦ let t : Present q (p ∷ erased_pairs alike k ps) = subst (Present q) (erased_there k p ps n) h in
            elim t [ inl f ↦ inl f | inr r ↦ inr (erase_present k q ps r) ]
      ]

  pub erase_distinct : (k : K) (ps : List (Pair K)) → DistinctKeys ps → DistinctKeys (erased_pairs alike k ps)
  erase_distinct k [] d = d
  erase_distinct k (p ∷ ps) d =
      elim (same_or_not p.key k) [
        | inl e ↦ subst DistinctKeys (sym (erased_here k p ps e)) (turned_distinct ps d.1)
        | inr n ↦ subst DistinctKeys (sym (erased_there k p ps n)) ((λ t. d.0 (erase_present k p.key ps t)), erase_distinct k ps d.1)
      ]

  -- the same of pairs that are equal to those after a put or an erase
  pub put_law : (c : ℕ) (k : K) (w : List ℕ) (fits : Bool) (old new : List (Pair K)) → fits ≡ room_for alike c k old → new ≡ put_pairs alike c k w old → PutLaw alike k w fits old new
  put_law c k w fits old new e f =
      record {
        distinct = λ d. subst DistinctKeys (sym f) (put_distinct k w c old d);
        words = λ t. ap (words_of alike k) f ∙ put_words k w c old (sym e ∙ t);
        others = λ q n. ap (words_of alike q) f ∙ put_others k w c q old n;
      }

  pub erase_law : (k : K) (old new : List (Pair K)) → new ≡ erased_pairs alike k old → EraseLaw alike k old new
  erase_law k old new f =
      record {
        distinct = λ d. subst DistinctKeys (sym f) (erase_distinct k old d);
        words = λ d. ap (words_of alike k) f ∙ erase_words k old d;
        others = λ d q n. ap (words_of alike q) f ∙ erase_others k q old d n;
      }

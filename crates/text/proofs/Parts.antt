-- A list cut at each element that passes: its first part is what stands before the first, and a line cut at its spaces is its fields.
use Rattle.std.proofs.Common.{◌≡◌, ℕ, ◌+◌, ◌<◌, ◌≤◌, Bool, true, false, not, cond, eqb, ◌≢◌, List, [], ◌∷◌, length, sym, refl, ap, ◌∙◌, arith}
use Rattle.std.specs.List.{AllByRecursion, slice_split, onto_first, position_or_len, before_first}
use Rattle.std.proofs.lemmas.Bool.{eqb-false}
use Rattle.std.proofs.lemmas.List.{take_all}
use Rattle.std.proofs.lemmas.List.Splits.{length-slice_split}
use Rattle.text.specs.Texts.{Lacks}

-- where none passes there is one part, all of it
split_none : {X : Type 0} (p : X → Bool) (xs : List X) → length xs ≤ position_or_len p xs → slice_split p xs ≡ xs ∷ []
split_none p [] h = refl
split_none p (x ∷ xs) h = go (p x) (split_none p xs) h
  where
    go : (b : Bool) → (length xs ≤ position_or_len p xs → slice_split p xs ≡ xs ∷ []) → length (x ∷ xs) ≤ cond (not b) (1 + position_or_len p xs) 0
        → cond b ([] ∷ slice_split p xs) (onto_first x (slice_split p xs)) ≡ (x ∷ xs) ∷ []
    go true rest h = absurd (omega arith)
    go false rest h = ap (onto_first x) (rest (omega arith))

pub split_last : {X : Type 0} (p : X → Bool) (xs : List X) → length xs ≤ position_or_len p xs → slice_split p xs ≡ before_first p xs ∷ []
split_last p xs h = split_none p xs h ∙ ap (λ s. s ∷ []) (sym (take_all (position_or_len p xs) xs h))

pub some_part : {X : Type 0} (p : X → Bool) (xs : List X) → 0 < length (slice_split p xs)
some_part p xs = omega (arith, length-slice_split p xs)

-- ---- no separator inside
first_lacks : (c b : ℕ) (ps : List (List ℕ)) → b ≢ c → AllByRecursion (Lacks c) ps → AllByRecursion (Lacks c) (onto_first b ps)
first_lacks c b [] h all = ((h, tt), tt)
first_lacks c b (p ∷ ps) h all = ((h, all.0), all.1)

pub parts_lack : (c : ℕ) (bs : List ℕ) → AllByRecursion (Lacks c) (slice_split (λ b. eqb b c) bs)
parts_lack c [] = (tt, tt)
parts_lack c (b ∷ bs) = go (eqb b c) (eqb-false b c) (parts_lack c bs)
  where
    go : (x : Bool) → (x ≡ false → b ≢ c) → AllByRecursion (Lacks c) (slice_split (λ b. eqb b c) bs)
        → AllByRecursion (Lacks c) (cond x ([] ∷ slice_split (λ b. eqb b c) bs) (onto_first b (slice_split (λ b. eqb b c) bs)))
    go true h rest = (tt, rest)
    go false h rest = first_lacks c b (slice_split (λ b. eqb b c) bs) (h refl) rest

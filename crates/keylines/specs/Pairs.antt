-- The pairs of a key table as a list, and what putting, erasing and finding do to it. Assumes nothing.
--
-- | word         | meaning                                                                         |
-- |--------------|---------------------------------------------------------------------------------|
-- | alike        | the sameness of a kind of key, `above` its order                                |
-- | with_words   | the pair of a key and its words                                                 |
-- | place_of     | the place of the first pair with a key; the number of pairs where there is none |
-- | holds        | whether some pair has a key                                                     |
-- | room_for     | whether a key can be put: it is held already, or a place is free                |
-- | put_pairs    | the pairs after a put                                                           |
-- | closed       | the pairs with the last of them moved to a place                                |
-- | erased_pairs | the pairs after an erase                                                        |
-- | words_of     | the words of a key, if it is held                                               |
-- | largest_of   | the largest key, if there is a pair                                             |
use Rattle.std.specs.Prelude.{ℕ, ◌-◌, Bool, cond, ◌||◌, List, [], ◌∷◌, ◌++◌, length, take, Some, None, fold, Option, option_map, find, nat_lt, slice_get, slice_set}
use Rattle.std.specs.List.{position_or_len}
use Rattle.keylines.specs.declared.lines.Pair.{Pair}

abbrev pub with_words : {K : Type 0} → K → List ℕ → Pair K
with_words k w = record { key = k; words = w }

abbrev pub place_of : {K : Type 0} → (K → K → Bool) → K → List (Pair K) → ℕ
place_of alike k ps = position_or_len (λ p. alike p.key k) ps

abbrev pub holds : {K : Type 0} → (K → K → Bool) → K → List (Pair K) → Bool
holds alike k ps = nat_lt (place_of alike k ps) (length ps)

abbrev pub room_for : {K : Type 0} → (K → K → Bool) → ℕ → K → List (Pair K) → Bool
room_for alike c k ps = holds alike k ps || nat_lt (length ps) c

-- a held key's words are replaced; another key goes behind the last pair if a place is free
abbrev pub put_pairs : {K : Type 0} → (K → K → Bool) → ℕ → K → List ℕ → List (Pair K) → List (Pair K)
put_pairs alike c k w ps =
    cond (holds alike k ps)
    (slice_set ps (place_of alike k ps) (with_words k w))
    (cond (nat_lt (length ps) c) (ps ++ (with_words k w ∷ [])) ps)

abbrev pub closed : {X : Type 0} → ℕ → List X → List X
closed i ps = elim (slice_get ps (length ps - 1)) [ None ↦ ps | Some p ↦ take (length ps - 1) (slice_set ps i p) ]

-- the last pair moves into the gap; where the key is not held, nothing changes
abbrev pub erased_pairs : {K : Type 0} → (K → K → Bool) → K → List (Pair K) → List (Pair K)
erased_pairs alike k ps = cond (holds alike k ps) (closed (place_of alike k ps) ps) ps

abbrev pub words_of : {K : Type 0} → (K → K → Bool) → K → List (Pair K) → Option (List ℕ)
words_of alike k ps = option_map (λ p. p.words) (find (λ p. alike p.key k) ps)

-- the larger of the largest key so far and one more key
abbrev pub larger_of : {K : Type 0} → (K → K → Bool) → Option K → K → Option K
larger_of above None k = Some k
larger_of above (Some b) k = Some (cond (above k b) k b)

abbrev pub largest_of : {K : Type 0} → (K → K → Bool) → List (Pair K) → Option K
largest_of above ps = fold (λ b p. larger_of above b p.key) None ps

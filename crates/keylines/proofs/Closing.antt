-- A gap that the last element closes, step by step: in front it is the rest with its last element moved ahead; further on the first stays. By induction over the list.
use Rattle.std.proofs.Common.{◌≡◌, ℕ, suc, ◌-◌, ◌<◌, List, [], ◌∷◌, length, take, set, Some, None, sym, refl, ap, ◌∙◌, arith}
use Rattle.std.specs.List.{slice_get}
use Rattle.keylines.specs.Pairs.{closed}

-- the last of a list that begins with x, and the list without it
abbrev pub last_of : {X : Type 0} → X → List X → X
last_of x [] = x
last_of x (y ∷ ys) = last_of y ys

abbrev pub front_of : {X : Type 0} → X → List X → List X
front_of x [] = []
front_of x (y ∷ ys) = x ∷ front_of y ys

nth_last : {X : Type 0} (x : X) (xs : List X) → slice_get (x ∷ xs) (length xs) ≡ Some (last_of x xs)
nth_last x [] = refl
nth_last x (y ∷ ys) = nth_last y ys

take_front : {X : Type 0} (x : X) (xs : List X) → take (length xs) (x ∷ xs) ≡ front_of x xs
take_front x [] = refl
take_front x (y ∷ ys) = ap (λ r. x ∷ r) (take_front y ys)

-- a list with its last element moved to its front
abbrev pub turned : {X : Type 0} → List X → List X
turned [] = []
turned (x ∷ xs) = last_of x xs ∷ front_of x xs

closed_is : {X : Type 0} (i : ℕ) (x : X) (xs : List X) → closed i (x ∷ xs) ≡ take (length xs) (set (x ∷ xs) i (last_of x xs))
closed_is {X} i x xs =
    let e : suc (length xs) - 1 ≡ length xs = omega arith in
    ap (λ m. elim (slice_get (x ∷ xs) m) as (λ _. List X) [ None ↦ x ∷ xs | Some q ↦ take m (set (x ∷ xs) i q) ]) e
    ∙ ap (λ o. elim o as (λ _. List X) [ None ↦ x ∷ xs | Some q ↦ take (length xs) (set (x ∷ xs) i q) ]) (nth_last x xs)

pub closed_first : {X : Type 0} (x : X) (xs : List X) → closed 0 (x ∷ xs) ≡ turned xs
closed_first x [] = closed_is 0 x []
closed_first x (y ∷ ys) = closed_is 0 x (y ∷ ys) ∙ ap (λ r. last_of y ys ∷ r) (take_front y ys)

pub closed_later : {X : Type 0} (i : ℕ) (x : X) (xs : List X) → i < length xs → closed (suc i) (x ∷ xs) ≡ x ∷ closed i xs
closed_later i x [] h = absurd (omega arith)
closed_later i x (y ∷ ys) h = closed_is (suc i) x (y ∷ ys) ∙ ap (λ r. x ∷ r) (sym (closed_is i y ys))

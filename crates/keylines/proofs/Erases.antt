-- An erase at the place that a search gave is the erase on the list of used pairs: the last used pair stands in the gap.
use Rattle.std.proofs.Common.{◌≡◌, ℕ, ◌-◌, ◌≤◌, Bool, cond, List, length, get_or, take, set, Some, None, sym, ap, ◌∙◌, arith, position}
use Rattle.std.proofs.Math.Seq.{take-set-lt}
use Rattle.std.proofs.lemmas.List.{length-take-le, take-take, get_or-take}
use Rattle.std.proofs.lemmas.Option.{slice_get_read}
use Rattle.std.proofs.lemmas.Bool.{lt-ltb}
use Rattle.std.specs.List.{slice_get}
use Rattle.keylines.specs.declared.lines.Pair.{Pair}
use Rattle.keylines.specs.Pairs.{place_of, closed, erased_pairs}
use Rattle.keylines.proofs.Puts.{at_place}

module _ {K : Type 0} (alike : K → K → Bool) (k : K) where
  -- p is the last of the first n places
  pub erase_over : (xs : List (Pair K)) (n i : ℕ) (p : Pair K) → n ≤ length xs → Some i ≡ position (λ q. alike q.key k) (take n xs) → p ≡ get_or xs (n - 1) p → take (n - 1) (set xs i p) ≡ erased_pairs alike k (take n xs)
  erase_over xs n i p l e f =
      let a = at_place alike k (take n xs) i e in
      let s = length-take-le n xs l in
      let read : p ≡ get_or (take n xs) (n - 1) p = f ∙ sym (get_or-take n xs (n - 1) p (omega arith)) in
      let last : slice_get (take n xs) (n - 1) ≡ Some p = slice_get_read (take n xs) n (n - 1) p (sym s) (omega arith) read in
      let closes : erased_pairs alike k (take n xs) ≡ take (n - 1) (set (take n xs) i p) =
      ap (λ b. cond b (closed (place_of alike k (take n xs)) (take n xs)) (take n xs)) (lt-ltb (place_of alike k (take n xs)) (length (take n xs)) a.1)
      ∙ ap (λ m. closed m (take n xs)) (sym a.0)
      ∙ ap (λ m. elim (slice_get (take n xs) (m - 1)) as (λ _. List (Pair K)) [ None ↦ take n xs | Some q ↦ take (m - 1) (set (take n xs) i q) ]) s
      ∙ ap (λ o. elim o as (λ _. List (Pair K)) [ None ↦ take n xs | Some q ↦ take (n - 1) (set (take n xs) i q) ]) last
      in
      sym (take-take (n - 1) n (set xs i p) (omega arith)) ∙ ap (take (n - 1)) (take-set-lt n xs i p (omega arith)) ∙ sym closes

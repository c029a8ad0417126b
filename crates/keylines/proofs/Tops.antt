-- The largest key is present and none is above it: from the largest so far, by induction over the pairs.
use Rattle.std.proofs.Common.{◌≡◌, Bool, true, false, cond, ◌⊎◌, List, [], ◌∷◌, Some, fold, refl, ap, ◌∙◌, subst, inl, inr, arith}
use Rattle.std.proofs.lemmas.Bool.{cases_Bool, both_ways}
use Rattle.keylines.specs.declared.lines.Pair.{Pair}
use Rattle.keylines.specs.Pairs.{larger_of, largest_of}
use Rattle.keylines.specs.Laws.{Present, Largest}

-- what the largest key m is, given the largest so far
record Top {K : Type 0} (above : K → K → Bool) (b : K) (ps : List (Pair K)) : Type 0 where
  m : K
  is : fold (λ o p. larger_of above o p.key) (Some b) ps ≡ Some m
  from : (b ≡ m) ⊎ Present m ps
  first : above b m ≡ false
  others : (q : K) → Present q ps → above q m ≡ false

module _ {K : Type 0} (above : K → K → Bool) (total : (x y : K) → above x y ≡ false → above y x ≡ false → x ≡ y)
    (transitive : (x y z : K) → above x y ≡ true → above y z ≡ true → above x z ≡ true) (strict : (x : K) → above x x ≡ false) where
  -- what is not above b, which is not above m, is not above m
  not_above : (x b m : K) → above x b ≡ false → above b m ≡ false → above x m ≡ false
  not_above x b m xb bm =
      elim (cases_Bool (above x m)) [
        | inr f ↦ f
        | inl t ↦ elim (cases_Bool (above m b)) [
          | inl mb ↦ absurd (both_ways (above x b) xb (transitive x m b t mb))
          | inr mb ↦ absurd (both_ways (above x m) (subst (λ y. above x y ≡ false) (total b m bm mb) xb) t)
        ]
      ]

  -- what a larger key is above is not above m
  still_below : (x b m : K) → above x b ≡ true → above x m ≡ false → above b m ≡ false
  still_below x b m xb xm =
      elim (cases_Bool (above b m)) [ inr f ↦ f | inl t ↦ absurd (both_ways (above x m) xm (transitive x b m xb t)) ]

  topped : (b : K) (ps : List (Pair K)) → Top above b ps
  topped b [] = record { m = b; is = refl; from = inl refl; first = strict b; others = λ q h. absurd h }
  topped b (p ∷ ps) =
      elim (cases_Bool (above p.key b)) [
        | inl t ↦ let r = topped p.key ps in record {
          m = r.m;
          is = ap (λ x. fold (λ o p. larger_of above o p.key) (Some (cond x p.key b)) ps) t ∙ r.is;
          from = elim r.from [ inl e ↦ inr (inl e) | inr h ↦ inr (inr h) ];
          first = still_below p.key b r.m t r.first;
          others = λ q h. elim h [ inl e ↦ subst (λ x. above x r.m ≡ false) e r.first | inr i ↦ r.others q i ];
        }
        | inr f ↦ let r = topped b ps in record {
          m = r.m;
          is = ap (λ x. fold (λ o p. larger_of above o p.key) (Some (cond x p.key b)) ps) f ∙ r.is;
          from = elim r.from [ inl e ↦ inl e | inr h ↦ inr (inr h) ];
          first = r.first;
          others = λ q h. elim h [ inl e ↦ subst (λ x. above x r.m ≡ false) e (not_above p.key b r.m f r.first) | inr i ↦ r.others q i ];
        }
      ]

  pub largest_law : (ps : List (Pair K)) → Largest above ps (largest_of above ps)
  largest_law [] = record { none = λ _. refl; empty = λ _. refl; present = λ k e. absurd (grind arith); top = λ k q e h. absurd h }
  largest_law (p ∷ ps) =
      let r = topped p.key ps in record {
        none = λ e. let s = r.is in absurd (grind arith);
        empty = λ e. absurd (grind arith);
        present = λ k e. let same : r.m ≡ k = let s = r.is in cc in subst (λ x. Present x (p ∷ ps)) same (elim r.from [ inl f ↦ inl f | inr h ↦ inr h ]);
        top = λ k q e h. let same : r.m ≡ k = let s = r.is in cc in
            subst (λ x. above q x ≡ false) same (elim h [ inl f ↦ subst (λ x. above x r.m ≡ false) f r.first | inr i ↦ r.others q i ]);
      }

-- The lines of a text that is left: the run up to the next newline, and those after it.
use Rattle.std.proofs.Common.{◌≡◌, ℕ, ◌+◌, ◌<◌, Bor, Bool, eqb, List, [], ◌∷◌, length, take, drop, Some, None, Option, sym, refl, ap, ◌∙◌, inl, inr, arith}
use Rattle.std.specs.List.{slice_split, position_or_len, before_first, after_first}
use Rattle.std.specs.Option.{unwrap_or}
use Rattle.std.specs.Slice.{IsGetRangeResult}
use Rattle.std.proofs.lemmas.Bool.{cases_lt}
use Rattle.std.proofs.lemmas.List.{drop_all, take_all, take_rest}
use Rattle.std.proofs.lemmas.List.Splits.{slice_split_first}
use Rattle.text.specs.Texts.{closed, newline, lines_of}
use Rattle.text.proofs.Parts.{split_last, some_part}

abbrev is_newline : ℕ → Bool
is_newline b = eqb b newline

closed_more : (p : List ℕ) (ps : List (List ℕ)) → 0 < length ps → closed (p ∷ ps) ≡ p ∷ closed ps
closed_more p [] h = absurd (omega arith)
closed_more p (q ∷ qs) h = refl

closed_full : (p : List ℕ) → 0 < length p → closed (p ∷ []) ≡ p ∷ []
closed_full [] h = absurd (omega arith)
closed_full (b ∷ p) h = refl

pub lines_next : (bs : List ℕ) → 0 < length bs → lines_of bs ≡ before_first is_newline bs ∷ lines_of (after_first is_newline bs)
lines_next bs h =
    let n = position_or_len is_newline bs in
    elim (cases_lt n (length bs)) [
      | inl l ↦ ap closed (slice_split_first is_newline bs 0 l) ∙ closed_more (take n bs) (slice_split is_newline (drop (n + 1) bs)) (some_part is_newline (drop (n + 1) bs))
      | inr l ↦
          let all : take n bs ≡ bs = take_all n bs l in
          ap closed (split_last is_newline bs l)
          ∙ ap (λ s. closed (s ∷ [])) all
          ∙ closed_full bs h
          ∙ ap (λ s. s ∷ []) (sym all)
          ∙ ap (λ s. take n bs ∷ lines_of s) (sym (drop_all (n + 1) bs (omega arith)))
    ]

-- what `get(n..)` gives, or nothing past the end
pub get_rest : (bs : List ℕ) (n : ℕ) (r : Option (Bor (List ℕ))) (d : Bor (List ℕ)) → IsGetRangeResult bs n (length bs) r → d.now ≡ [] → (unwrap_or r d).now ≡ drop n bs
get_rest bs n None d h e = let all = drop_all n bs in grind (arith, all)
get_rest bs n (Some x) d h e = grind (arith, take_rest)

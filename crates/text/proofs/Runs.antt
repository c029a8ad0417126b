-- One digit more of a number, and a byte that is none: the steps of the loop over digits.
use Rattle.std.proofs.Common.{◌≡◌, ℕ, ◌+◌, ◌-◌, ◌*◌, ◌<◌, true, false, List, [], ◌∷◌, length, get_or, drop, Some, None, fold, refl, ap, ◌∙◌}
use Rattle.std.specs.Char.{is_ascii_digit}
use Rattle.std.proofs.lemmas.Bool.{cond-true, cond-false}
use Rattle.std.proofs.lemmas.List.{at_drop_more}
use Rattle.text.specs.Texts.{digit_on}

none_stays : (bs : List ℕ) → fold digit_on None bs ≡ None
none_stays [] = refl
none_stays (b ∷ bs) = none_stays bs

pub digit_more : (n : ℕ) (bs : List ℕ) (i : ℕ) → i < length bs → is_ascii_digit (get_or bs i 0) ≡ true
    → fold digit_on (Some n) (drop i bs) ≡ fold digit_on (Some (n * 10 + (get_or bs i 0 - 48))) (drop (i + 1) bs)
digit_more n bs i h e =
    let b = get_or bs i 0 in
    at_drop_more (fold digit_on (Some n)) bs i 0 h ∙ ap (λ o. fold digit_on o (drop (i + 1) bs)) (cond-true (is_ascii_digit b) (Some (n * 10 + (b - 48))) None e)

pub no_digit : (n : ℕ) (bs : List ℕ) (i : ℕ) → i < length bs → is_ascii_digit (get_or bs i 0) ≡ false → fold digit_on (Some n) (drop i bs) ≡ None
no_digit n bs i h e =
    let b = get_or bs i 0 in
    at_drop_more (fold digit_on (Some n)) bs i 0 h
    ∙ ap (λ o. fold digit_on o (drop (i + 1) bs)) (cond-false (is_ascii_digit b) (Some (n * 10 + (b - 48))) None e)
    ∙ none_stays (drop (i + 1) bs)

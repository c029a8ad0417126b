-- Bytes as text: lines, fields and numbers. Assumes nothing.
--
-- closed ps        the parts less a last one that is empty
-- lines_of bs      the lines of a text: the parts between newlines, and no line after a last newline
-- Lacks c bs       no byte of bs is c
-- digit_on n b     the number n with the digit b after it, if b is one
-- decimal bs       the number that the bytes write in decimal digits, if they are all digits
-- number_of bs     the same, of 1 to 10 digits
use Rattle.std.specs.Prelude.{ℕ, ◌+◌, ◌-◌, ◌*◌, cond, ◌&&◌, ◌≢◌, List, [], ◌∷◌, length, Some, None, fold, Option, ◌==◌, nat_le}
use Rattle.std.specs.Char.{is_ascii_digit}
use Rattle.std.specs.List.{AllByRecursion, slice_split}

-- a part by itself, unless it is empty
abbrev pub unless_empty : List ℕ → List (List ℕ)
unless_empty [] = []
unless_empty (b ∷ p) = (b ∷ p) ∷ []

abbrev pub closed : List (List ℕ) → List (List ℕ)
closed [] = []
closed (p ∷ []) = unless_empty p
closed (p ∷ (q ∷ ps)) = p ∷ closed (q ∷ ps)

abbrev pub newline : ℕ
newline = 10

abbrev pub lines_of : List ℕ → List (List ℕ)
lines_of bs = closed (slice_split (λ b. b == newline) bs)

abbrev pub Lacks : ℕ → List ℕ → Type 0
Lacks c bs = AllByRecursion (λ b. b ≢ c) bs

abbrev pub digit_on : Option ℕ → ℕ → Option ℕ
digit_on None b = None
digit_on (Some n) b = cond (is_ascii_digit b) (Some (n * 10 + (b - 48))) None

abbrev pub decimal : List ℕ → Option ℕ
decimal bs = fold digit_on (Some 0) bs

abbrev pub number_of : List ℕ → Option ℕ
number_of bs = cond (nat_le 1 (length bs) && nat_le (length bs) 10) (decimal bs) None

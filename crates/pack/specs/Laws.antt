-- What holds of every sheet, in the words of the pack standard. Assumes nothing.
--
-- InRange q                 q is a number from 0 to the largest charge
-- ChargeInRange s q         where s is the sheet of some lines, its charge q is in range
-- OnlyCounted s s'          s' is s with one more unfit line, and nothing else
-- UnfitOnlyCounted s l s'   an unfit line l leaves charge, rest state, remaining time and fit count of s as they were
-- NoneFit xs ys             no line of ys is fit where it comes, after the lines xs
-- LastFit ls l              l is the last line of ls that is fit where it comes
-- TimeByLastFit s t         where s is the sheet of some lines, t is its remaining time: there is one exactly when the last fit line is a Drain
-- SheetsJoin s ys s'        where s is the sheet of lines xs, s', which is s worked on by ys, is the sheet of xs and then ys
use Rattle.std.specs.Prelude.{◌≡◌, ℕ, true, false, T, List, [], ◌∷◌, ◌++◌, Some, None, Option, Float}
use Rattle.std.specs.Float.{binary64}
use Rattle.std.specs.Float.Ieee.{div, le}
use Rattle.pack.specs.declared.line.PackLine.{PackLine}
use Rattle.pack.specs.declared.line.PackLine.TheVariants.{Begin, Drain, Idle}
use Rattle.pack.specs.declared.sheet.PackSheet.{PackSheet}
use Rattle.pack.specs.Standard.{whole, charge_most, counted}
use Rattle.pack.specs.Sheets.{fit_for, sheet_of, remaining_of}

-- both comparisons are false at a float that is not a number
abbrev pub InRange : Float → Type 0
InRange q = T (le (whole 0) q) × T (le q (whole charge_most))

abbrev pub ChargeInRange : PackSheet → Float → Type 0
ChargeInRange s q = (ls : List PackLine) → s ≡ sheet_of ls → InRange q

pub record OnlyCounted (s s' : PackSheet) : Type 0 where
  pub charge : s'.charge ≡ s.charge
  pub state : s'.state ≡ s.state
  pub remaining : remaining_of s' ≡ remaining_of s
  pub fit : s'.fit ≡ s.fit
  pub unfit : s'.unfit ≡ counted s.unfit

abbrev pub UnfitOnlyCounted : PackSheet → PackLine → PackSheet → Type 0
UnfitOnlyCounted s l s' = fit_for s l ≡ false → OnlyCounted s s'

abbrev pub NoneFit : List PackLine → List PackLine → Type 0
NoneFit xs ys = (us : List PackLine) (u : PackLine) (vs : List PackLine) → ys ≡ us ++ (u ∷ vs) → fit_for (sheet_of (xs ++ us)) u ≡ false

pub record LastFit (ls : List PackLine) (l : PackLine) : Type 0 where
  pub before : List PackLine
  pub after : List PackLine
  pub order : ls ≡ before ++ (l ∷ after)
  pub fit : fit_for (sheet_of before) l ≡ true
  pub rest : NoneFit (before ++ (l ∷ [])) after

-- q is the charge of the sheet of ls
pub record TimeAfter (ls : List PackLine) (q : Float) (t : Option Float) : Type 0 where
  pub drain : (c : Float) (n : ℕ) → LastFit ls (Drain c n) → t ≡ Some (div binary64 q c)
  pub begin : (b : Float) → LastFit ls (Begin b) → t ≡ None
  pub idle : (n : ℕ) → LastFit ls (Idle n) → t ≡ None
  pub none : NoneFit [] ls → t ≡ None

abbrev pub TimeByLastFit : PackSheet → Option Float → Type 0
TimeByLastFit s t = (ls : List PackLine) → s ≡ sheet_of ls → TimeAfter ls s.charge t

abbrev pub SheetsJoin : PackSheet → List PackLine → PackSheet → Type 0
SheetsJoin s ys s' = (xs : List PackLine) → s ≡ sheet_of xs → s' ≡ sheet_of (xs ++ ys)

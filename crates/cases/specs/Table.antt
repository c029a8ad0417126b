-- The marked cases: one table, each row shown of the definitions that the contracts cite. Assumes nothing.
--
-- Row          a question and what it should answer
-- Holds r      the definitions give just that answer
-- table        the rows
use Rattle.std.specs.Prelude.{◌≡◌, ℕ, false, List, [], ◌∷◌, negsuc, Some, None, Option, Float}
use Rattle.std.specs.Float.{fin}
use Rattle.std.specs.List.{AllByRecursion}
use Rattle.pack.specs.Sheets.{sheet_of, remaining_of}
use Rattle.pack.specs.Standard.{whole}
use Rattle.pack.specs.declared.line.PackLine.{PackLine}
use Rattle.pack.specs.declared.line.PackLine.TheVariants.{Begin, Drain, Idle}
use Rattle.roster.specs.Answers.{append_answer}
use Rattle.roster.specs.Faults.{refusal_number}
use Rattle.roster.specs.Model.{opened}
use Rattle.roster.specs.declared.entry.Entry.{Entry}
use Rattle.roster.specs.declared.entry.Entry.TheVariants.{Seat}

pub data Row : Type 0 where
  -- the sheet of these lines has this charge, this remaining time, and these counts of fit and unfit lines
  pack_sheet : List PackLine → Float → Option Float → ℕ → ℕ → Row
  -- an open roster of these entries and this capacity refuses an append at this place with this number
  roster_append : List (Entry ℕ) → ℕ → ℕ → ℕ → Row

abbrev pub Holds : Row → Type 0
Holds (pack_sheet ls q t f u) = ((sheet_of ls).charge ≡ q) × (remaining_of (sheet_of ls) ≡ t) × ((sheet_of ls).fit ≡ f) × ((sheet_of ls).unfit ≡ u)
Holds (roster_append es n p k) = refusal_number (append_answer (opened es n) p) ≡ Some k

-- 9.5, which is 19 / 2
abbrev pub nine_and_a_half : Float
nine_and_a_half = fin false 19 (negsuc 0)

abbrev pub table : List Row
table =
    pack_sheet [] (whole 0) None 0 0
    ∷ pack_sheet (Begin (whole 36000000) ∷ Drain (whole 5000) 3600 ∷ []) (whole 18000000) (Some (whole 3600)) 2 0
    ∷ pack_sheet (Begin (whole 36000000) ∷ Drain (whole 5000) 3600 ∷ Idle 60 ∷ []) (whole 18000000) None 3 0
    ∷ pack_sheet (Begin (whole 1000) ∷ Drain (whole 10) 101 ∷ []) (whole 0) (Some (whole 0)) 2 0
    ∷ pack_sheet (Begin (whole 1000) ∷ Drain nine_and_a_half 1 ∷ []) (whole 1000) None 1 1
    ∷ pack_sheet (Begin (whole 1000) ∷ Drain (whole 10) 1 ∷ []) (whole 990) (Some (whole 99)) 2 0
    ∷ roster_append [] 32 2 21
    ∷ roster_append (Seat 0 ∷ []) 1 2 22
    ∷ []

abbrev pub EveryCaseHolds : Type 0
EveryCaseHolds = AllByRecursion Holds table

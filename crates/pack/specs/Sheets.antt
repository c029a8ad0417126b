-- What a pack line does to a pack sheet. Assumes nothing.
--
-- begun t          a fit Begin has come
-- fit_for s l      the line l is fit for the sheet s
-- drained q c n    the charge q after the current c for n seconds
-- worked s l       the sheet s after a line that is fit
-- applied s l      the sheet s after any line
-- worked_on s ls   the sheet s after the lines ls, in their order
-- sheet_of ls      the sheet of the lines ls
-- remaining_of s   the remaining time in seconds, if there is one
use Rattle.std.specs.Prelude.{ℕ, Bool, true, false, cond, ◌&&◌, List, Some, None, fold, Option, Float}
use Rattle.std.specs.Float.{binary64}
use Rattle.std.specs.Float.Ieee.{mul, sub, div, lt}
use Rattle.pack.specs.declared.line.PackLine.{PackLine}
use Rattle.pack.specs.declared.line.PackLine.TheVariants.{Begin, Drain, Idle}
use Rattle.pack.specs.declared.sheet.RestState.{RestState}
use Rattle.pack.specs.declared.sheet.RestState.TheVariants.{Unbegun, AtRest, Draining}
use Rattle.pack.specs.declared.sheet.PackSheet.{PackSheet}
use Rattle.pack.specs.Standard.{whole, fit_charge, fit_current, fit_seconds, counted}

abbrev pub empty_sheet : PackSheet
empty_sheet = record { charge = whole 0; fit = 0; unfit = 0; state = Unbegun }

abbrev pub begun : RestState → Bool
begun Unbegun = false
begun AtRest = true
begun (Draining c) = true

abbrev pub fit_for : PackSheet → PackLine → Bool
fit_for s (Begin q) = fit_charge q
fit_for s (Drain c n) = begun s.state && (fit_current c && fit_seconds n)
fit_for s (Idle n) = begun s.state && fit_seconds n

-- one product, and one difference unless the product is larger than the charge: then nothing is left
abbrev pub drained : Float → Float → ℕ → Float
drained q c n = cond (lt q (mul binary64 c (whole n))) (whole 0) (sub binary64 q (mul binary64 c (whole n)))

abbrev pub worked : PackSheet → PackLine → PackSheet
worked s (Begin q) = record { charge = q; fit = counted s.fit; unfit = s.unfit; state = AtRest }
worked s (Drain c n) = record { charge = drained s.charge c n; fit = counted s.fit; unfit = s.unfit; state = Draining c }
worked s (Idle n) = record { charge = s.charge; fit = counted s.fit; unfit = s.unfit; state = AtRest }

-- an unfit line is only counted
abbrev pub refused_line : PackSheet → PackSheet
refused_line s = record { charge = s.charge; fit = s.fit; unfit = counted s.unfit; state = s.state }

abbrev pub applied : PackSheet → PackLine → PackSheet
applied s l = cond (fit_for s l) (worked s l) (refused_line s)

abbrev pub worked_on : PackSheet → List PackLine → PackSheet
worked_on s ls = fold applied s ls

abbrev pub sheet_of : List PackLine → PackSheet
sheet_of ls = worked_on empty_sheet ls

-- the charge divided by the current of the Drain that was the last fit line
abbrev pub time_at : Float → RestState → Option Float
time_at q Unbegun = None
time_at q AtRest = None
time_at q (Draining c) = Some (div binary64 q c)

abbrev pub remaining_of : PackSheet → Option Float
remaining_of s = time_at s.charge s.state

-- What a line of text does to a sheet, and what is written of it. Assumes nothing.
--
-- cut x              a charge or a time rounded down to a whole number
-- figures_of s       what is shown of the sheet s
-- sheet_after s bs   the sheet s after the line bs: a bad line leaves it
-- answer_of s bs     what is answered to the line bs, or which of its fields is bad
-- BookGrows          where s is the sheet of lines xs, s' is the sheet of xs and then the pack line that bs writes, if it writes one
-- summary_of s       what is shown of the whole sheet s
-- figures_text, answer_text, summary_text, sheet_text: the bytes that are written
use Rattle.std.specs.Prelude.{◌≡◌, ℕ, cond, List, ◌++◌, Some, None, Ok, Err, codes, decimal, Option, Result, Float}
use Rattle.std.specs.Float.Ieee.{to_unsigned}
use Rattle.pack.specs.Sheets.{fit_for, applied, sheet_of, remaining_of}
use Rattle.pack.specs.declared.line.PackLine.{PackLine}
use Rattle.pack.specs.declared.sheet.PackSheet.{PackSheet}
use Rattle.text.specs.declared.fields.BadField.{BadField}
use Rattle.text.specs.declared.summary.Summary.{Summary}
use Rattle.packtext.specs.Written.{pack_line_of, good_lines}
use Rattle.packtext.specs.declared.show.Answer.{Answer}
use Rattle.packtext.specs.declared.show.Answer.TheVariants.{Fit, Unfit}
use Rattle.packtext.specs.declared.show.Figures.{Figures}

abbrev pub cut : Float → ℕ
cut x = to_unsigned 64 x

abbrev pub cut_time : Option Float → Option ℕ
cut_time None = None
cut_time (Some t) = Some (cut t)

abbrev pub figures_of : PackSheet → Figures
figures_of s = record { charge = cut s.charge; remaining = cut_time (remaining_of s) }

abbrev pub sheet_after : PackSheet → List ℕ → PackSheet
sheet_after s bs = elim (pack_line_of bs) [ Err e ↦ s | Ok l ↦ applied s l ]

abbrev pub done_with : PackSheet → PackLine → Answer
done_with s l = cond (fit_for s l) (Fit (figures_of (applied s l))) (Unfit (figures_of (applied s l)))

abbrev pub answer_of : PackSheet → List ℕ → Result Answer BadField
answer_of s bs = elim (pack_line_of bs) [ Err e ↦ Err e | Ok l ↦ Ok (done_with s l) ]

abbrev pub BookGrows : PackSheet → List ℕ → PackSheet → Type 0
BookGrows s bs s' = (xs : List PackLine) → s ≡ sheet_of xs → s' ≡ sheet_of (xs ++ good_lines bs)

abbrev pub time_text : Option ℕ → List ℕ
time_text None = codes "-"
time_text (Some t) = decimal t

-- `CHARGE TIME`
abbrev pub figures_text : Figures → List ℕ
figures_text f = decimal f.charge ++ (codes " " ++ time_text f.remaining)

-- `fit CHARGE TIME` or `unfit CHARGE TIME`
abbrev pub answer_text : Answer → List ℕ
answer_text (Fit f) = codes "fit " ++ figures_text f
answer_text (Unfit f) = codes "unfit " ++ figures_text f

abbrev pub summary_of : PackSheet → Summary Figures
summary_of s = record { shown = figures_of s; fit = s.fit; unfit = s.unfit }

-- `sheet CHARGE TIME fit COUNT unfit COUNT`
abbrev pub summary_text : Summary Figures → List ℕ
summary_text s = codes "sheet " ++ (figures_text s.shown ++ (codes " fit " ++ (decimal s.fit ++ (codes " unfit " ++ decimal s.unfit))))

abbrev pub sheet_text : PackSheet → List ℕ
sheet_text s = summary_text (summary_of s)

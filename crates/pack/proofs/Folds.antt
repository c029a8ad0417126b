-- The rest state of a sheet is what the last fit line left.
use Rattle.std.proofs.Common.{◌≡◌, true, false, List, [], ◌∷◌, ◌++◌, Option, refl, ap, ◌∙◌, subst, arith}
use Rattle.std.proofs.lemmas.List.Sums.{fold-append}
use lib.Ieee.{Float}
use Rattle.pack.specs.declared.line.PackLine.{PackLine}
use Rattle.pack.specs.declared.sheet.PackSheet.{PackSheet}
use Rattle.pack.specs.Sheets.{fit_for, worked, applied, worked_on, sheet_of, empty_sheet, time_at, remaining_of}
use Rattle.pack.specs.Laws.{LastFit, TimeByLastFit}

joined : (xs ys : List PackLine) → sheet_of (xs ++ ys) ≡ worked_on (sheet_of xs) ys
joined xs ys = fold-append applied empty_sheet xs ys

-- what is left of the rest state: what a fit line makes it, and all of it under an unfit one
fit_state : (s : PackSheet) (l : PackLine) → fit_for s l ≡ true → (applied s l).state ≡ (worked s l).state
fit_state s l e = grind arith

unfit_state : (s : PackSheet) (l : PackLine) → fit_for s l ≡ false → (applied s l).state ≡ s.state
unfit_state s l e = grind arith

-- lines none of which is fit leave the rest state
none_keeps : (s : PackSheet) (ys : List PackLine)
    → ((us : List PackLine) (u : PackLine) (vs : List PackLine) → ys ≡ us ++ (u ∷ vs) → fit_for (worked_on s us) u ≡ false) → (worked_on s ys).state ≡ s.state
none_keeps s [] h = refl
none_keeps s (y ∷ ys) h =
    none_keeps (applied s y) ys (λ us u vs e. h (y ∷ us) u vs (ap (λ zs. y ∷ zs) e)) ∙ unfit_state s y (h [] y ys refl)

state-after : (ls : List PackLine) (l : PackLine) (f : LastFit ls l) → (sheet_of ls).state ≡ (worked (sheet_of f.before) l).state
state-after ls l f =
    let s = sheet_of f.before in
    ap (λ zs. (sheet_of zs).state) f.order
    ∙ ap (λ t. t.state) (joined f.before (l ∷ f.after))
    ∙ none_keeps (applied s l) f.after
    (λ us u vs e.
    subst (λ t. fit_for t u ≡ false) (joined (f.before ++ (l ∷ [])) us ∙ ap (λ t. worked_on t us) (joined f.before (l ∷ []))) (f.rest us u vs e))
    ∙ fit_state s l f.fit

pub time_by_last_fit : (s : PackSheet) (t : Option Float) → t ≡ remaining_of s → TimeByLastFit s t
time_by_last_fit s t w ls e =
    record {
      drain = λ c n f. w ∙ ap (time_at s.charge) (ap (λ u. u.state) e ∙ state-after ls _ f);
      begin = λ b f. w ∙ ap (time_at s.charge) (ap (λ u. u.state) e ∙ state-after ls _ f);
      idle = λ n f. w ∙ ap (time_at s.charge) (ap (λ u. u.state) e ∙ state-after ls _ f);
      none = λ h. w ∙ ap (time_at s.charge) (ap (λ u. u.state) e ∙ none_keeps empty_sheet ls h);
    }

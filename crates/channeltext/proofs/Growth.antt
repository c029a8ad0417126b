-- That the laws of a sheet go on over a line of text.
use Rattle.std.proofs.Common.{◌≡◌, ℕ, true, List, [], ◌∷◌, Ok, Err, Result, refl, ap, ◌∙◌}
use Rattle.std.proofs.lemmas.Bool.{eqb-true, eq-eqb}
use Rattle.keylines.proofs.Histories.{lawful_on}
use Rattle.keylines.specs.Laws.{LawsGoOn}
use Rattle.keylines.specs.Sheets.{Sheet, worked_on}
use Rattle.keylines.specs.declared.channels.Channel.{Channel}
use Rattle.keylines.specs.declared.lines.ChannelLine.{ChannelLine}
use Rattle.text.specs.declared.fields.BadField.{BadField}
use Rattle.channeltext.specs.declared.read.Request.{Request}
use Rattle.channeltext.specs.declared.read.Request.TheVariants.{Line, Find, Largest}
use Rattle.channeltext.specs.Requests.{request_of, good_lines}
use Rattle.channeltext.specs.Shown.{same_channel, after_request, sheet_after}

-- the sheet after it and the channel line, by what the line was read as
abbrev after_in : ℕ → Sheet Channel → Result Request BadField → Sheet Channel
after_in c s r = elim r [ Err e ↦ s | Ok q ↦ after_request c s q ]

abbrev lines_in : Result Request BadField → List (ChannelLine Channel)
lines_in r = elim r [ Err e ↦ [] | Ok q ↦ elim q [ Line l ↦ l ∷ [] | Find k ↦ [] | Largest ↦ [] ] ]

worked_in : (c : ℕ) (s : Sheet Channel) (r : Result Request BadField) → after_in c s r ≡ worked_on same_channel c s (lines_in r)
worked_in c s (Ok (Line l)) = refl
worked_in c s (Ok (Find k)) = refl
worked_in c s (Ok Largest) = refl
worked_in c s (Err e) = refl

exact : (x y : Channel) → same_channel x y ≡ true → x ≡ y
exact x y e = ap (λ n. record { number = n }) (eqb-true x.number y.number e)

itself : (x : Channel) → same_channel x x ≡ true
itself x = eq-eqb x.number x.number refl

pub laws_go_on : (c : ℕ) (s t : Sheet Channel) (bs : List ℕ) → t ≡ sheet_after c s bs → LawsGoOn same_channel c s (good_lines bs) t
laws_go_on c s t bs e before f = lawful_on same_channel exact itself c before (good_lines bs) s t f (e ∙ worked_in c s (request_of bs))

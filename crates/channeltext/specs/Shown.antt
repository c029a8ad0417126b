-- What a line of text asks of a key sheet and does to it, and what is written of that. Assumes nothing.
--
-- same_channel, above_channel   the sameness and the order of channels
-- Sheets c are over a table of capacity c.
-- answer_to c s q               what the sheet s answers to the request q
-- after_request c s q           the sheet s after the request q
-- answer_of c s bs              what is answered to the line bs, or which of its fields is bad
-- sheet_after c s bs            the sheet s after the line bs: only a channel line changes it
-- summary_of s                  what is shown of the whole sheet s
-- answer_text, summary_text, sheet_text: the bytes that are written
use Rattle.std.specs.Prelude.{ℕ, Bool, cond, List, ◌++◌, length, Some, None, Ok, Err, codes, decimal, Result, ◌==◌, nat_lt, slice_index}
use Rattle.keylines.specs.Pairs.{words_of, largest_of}
use Rattle.keylines.specs.Sheets.{Sheet, fits_line, applied}
use Rattle.keylines.specs.declared.channels.Channel.{Channel}
use Rattle.keylines.specs.declared.lines.ChannelLine.{ChannelLine}
use Rattle.text.specs.declared.fields.BadField.{BadField}
use Rattle.text.specs.declared.summary.Summary.{Summary}
use Rattle.channeltext.specs.declared.read.Request.{Request}
use Rattle.channeltext.specs.declared.read.Request.TheVariants as Asked
use Rattle.channeltext.specs.declared.show.ChannelAnswer.{ChannelAnswer}
use Rattle.channeltext.specs.declared.show.ChannelAnswer.TheVariants.{Fit, Unfit, Words, Largest}
use Rattle.channeltext.specs.Requests.{request_of}

-- the `eq` and the `above` of channels, written out, since only a clause can quote an impl
abbrev pub same_channel : Channel → Channel → Bool
same_channel x y = x.number == y.number

abbrev pub above_channel : Channel → Channel → Bool
above_channel x y = nat_lt y.number x.number

-- fit or unfit, with the number of pairs after it
abbrev pub line_answer : ℕ → Sheet Channel → ChannelLine Channel → ChannelAnswer
line_answer c s l =
    cond (fits_line same_channel c s.pairs l) (Fit (length (applied same_channel c s l).pairs)) (Unfit (length (applied same_channel c s l).pairs))

abbrev pub answer_to : ℕ → Sheet Channel → Request → ChannelAnswer
answer_to c s (Asked.Line l) = line_answer c s l
answer_to c s (Asked.Find k) = Words (words_of same_channel k s.pairs)
answer_to c s Asked.Largest = Largest (largest_of above_channel s.pairs)

abbrev pub after_request : ℕ → Sheet Channel → Request → Sheet Channel
after_request c s (Asked.Line l) = applied same_channel c s l
after_request c s (Asked.Find k) = s
after_request c s Asked.Largest = s

abbrev pub answer_of : ℕ → Sheet Channel → List ℕ → Result ChannelAnswer BadField
answer_of c s bs = elim (request_of bs) [ Err e ↦ Err e | Ok q ↦ Ok (answer_to c s q) ]

abbrev pub sheet_after : ℕ → Sheet Channel → List ℕ → Sheet Channel
sheet_after c s bs = elim (request_of bs) [ Err e ↦ s | Ok q ↦ after_request c s q ]

-- `fit USED`, `unfit USED`, `words WORD WORD`, `largest KEY` or `none`
abbrev pub answer_text : ChannelAnswer → List ℕ
answer_text (Fit u) = codes "fit " ++ decimal u
answer_text (Unfit u) = codes "unfit " ++ decimal u
answer_text (Words (Some w)) = codes "words " ++ (decimal (slice_index w 0) ++ (codes " " ++ decimal (slice_index w 1)))
answer_text (Words None) = codes "none"
answer_text (Largest (Some k)) = codes "largest " ++ decimal k.number
answer_text (Largest None) = codes "none"

abbrev pub summary_of : Sheet Channel → Summary ℕ
summary_of s = record { shown = length s.pairs; fit = s.fit; unfit = s.unfit }

-- `sheet USED fit COUNT unfit COUNT`
abbrev pub summary_text : Summary ℕ → List ℕ
summary_text s = codes "sheet " ++ (decimal s.shown ++ (codes " fit " ++ (decimal s.fit ++ (codes " unfit " ++ decimal s.unfit))))

abbrev pub sheet_text : Sheet Channel → List ℕ
sheet_text s = summary_text (summary_of s)

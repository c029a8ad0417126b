-- Pack lines written as text, and what is shown of a sheet. Assumes nothing.
--
-- pack_line_in u    a pack line in the next fields of u: `b CHARGE`, `d CURRENT SECONDS` or `i SECONDS`
-- pack_line_of bs   the pack line that the line bs writes, with no field after it
-- good_lines bs     that line, as a list; none where bs is bad
use Rattle.std.specs.Prelude.{ℕ, cond, List, [], ◌∷◌, Ok, Err, Result, ◌==◌}
use Rattle.pack.specs.Standard.{whole}
use Rattle.pack.specs.declared.line.PackLine.{PackLine}
use Rattle.pack.specs.declared.line.PackLine.TheVariants.{Begin, Drain, Idle}
use Rattle.text.specs.declared.fields.BadField.{BadField}
use Rattle.text.specs.Reading.{Unread, Taken, take_by, and_then, done, whole_line, letter_in, number32_in, bad_at}
use Rattle.text.specs.Texts.{number_of}

abbrev pub begin_in : Unread → Taken PackLine
begin_in u = and_then (take_by number_of u) (λ q. done (Ok (Begin (whole q))))

abbrev pub drain_in : Unread → Taken PackLine
drain_in u = and_then (take_by number_of u) (λ c v. and_then (take_by number32_in v) (λ n. done (Ok (Drain (whole c) n))))

abbrev pub idle_in : Unread → Taken PackLine
idle_in u = and_then (take_by number32_in u) (λ n. done (Ok (Idle n)))

-- by the letter, 98 for `b`, 100 for `d`, 105 for `i`; any other is bad at its place p
abbrev pub by_letter : ℕ → ℕ → Unread → Taken PackLine
by_letter p x u = cond (x == 98) (begin_in u) (cond (x == 100) (drain_in u) (cond (x == 105) (idle_in u) (done (Err (bad_at p)) u)))

abbrev pub pack_line_in : Unread → Taken PackLine
pack_line_in u = and_then (take_by letter_in u) (by_letter u.place)

abbrev pub pack_line_of : List ℕ → Result PackLine BadField
pack_line_of bs = whole_line pack_line_in bs

abbrev pub good_lines : List ℕ → List PackLine
good_lines bs = elim (pack_line_of bs) [ Err e ↦ [] | Ok l ↦ l ∷ [] ]

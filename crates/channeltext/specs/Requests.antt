-- Requests to a key sheet, written as text. Assumes nothing.
--
-- put_in u           the key and the two words of a `p` line, in the next fields of u
-- erase_in u         the key of an `e` line
-- find_in p f        the key of the field f, which is `?KEY` and stands at the place p
-- by_word p f u      the request that begins with the field f at the place p, and has its other fields in u
-- request_in u       a request in the next fields of u: `p KEY WORD WORD`, `e KEY`, `?KEY` or `!`
-- request_of bs      the request that the line bs writes, with no field after it
-- size_of f          the size of a table that the field f writes, 0 to 1,024 places; size_in u in the next field
-- places_of bs       the size of a table that the line bs writes: `t PLACES`, with 0 to 1,024 places
-- good_lines bs      the channel line that bs writes, as a list; none where it is another request, or bad
use Rattle.std.specs.Prelude.{ℕ, cond, List, [], ◌∷◌, Some, None, Ok, Err, Option, Result, ◌==◌, nat_le}
use Rattle.keylines.specs.Limits.{places_max}
use Rattle.keylines.specs.declared.channels.Channel.{Channel}
use Rattle.keylines.specs.declared.lines.ChannelLine.{ChannelLine}
use Rattle.keylines.specs.declared.lines.ChannelLine.TheVariants.{Put, Erase}
use Rattle.text.specs.declared.fields.BadField.{BadField}
use Rattle.text.specs.Reading.{Unread, Taken, take_by, and_then, done, whole_line, first_field, past_field, letter_in, number32_in, bad_at}
use Rattle.text.specs.Texts.{number_of}
use Rattle.channeltext.specs.declared.read.Request.{Request}
use Rattle.channeltext.specs.declared.read.Request.TheVariants.{Line, Find, Largest}

abbrev pub channel : ℕ → Channel
channel n = record { number = n }

abbrev pub put_in : Unread → Taken Request
put_in u =
    and_then (take_by number32_in u)
    (λ k v. and_then (take_by number_of v) (λ x w. and_then (take_by number_of w) (λ y. done (Ok (Line (Put (channel k) (x ∷ y ∷ [])))))))

abbrev pub erase_in : Unread → Taken Request
erase_in u = and_then (take_by number32_in u) (λ k. done (Ok (Line (Erase (channel k)))))

-- a key that was read, to be found
abbrev pub key_in : ℕ → Option ℕ → Result Request BadField
key_in p None = Err (bad_at p)
key_in p (Some k) = Ok (Find (channel k))

-- 63 is `?`
abbrev pub find_in : ℕ → List ℕ → Result Request BadField
find_in p [] = Err (bad_at p)
find_in p (b ∷ ds) = cond (b == 63) (key_in p (number32_in ds)) (Err (bad_at p))

-- by a field of one byte, 112 for `p`, 101 for `e`, 33 for `!`; any other field is a key to find, or bad
abbrev pub by_word : ℕ → List ℕ → Unread → Taken Request
by_word p f u =
    elim (letter_in f) [
      | None ↦ done (find_in p f) u
      | Some b ↦ cond (b == 112) (put_in u) (cond (b == 101) (erase_in u) (cond (b == 33) (done (Ok Largest) u) (done (find_in p f) u)))
    ]

abbrev pub request_in : Unread → Taken Request
request_in u = and_then (record { answer = first_field u; left = past_field u }) (by_word u.place)

abbrev pub request_of : List ℕ → Result Request BadField
request_of bs = whole_line request_in bs

-- more places than a table can use are a wrong field
abbrev pub size_of : List ℕ → Option ℕ
size_of f = elim (number32_in f) [ None ↦ None | Some n ↦ cond (nat_le n places_max) (Some n) None ]

abbrev pub size_in : Unread → Taken ℕ
size_in u = take_by size_of u

-- 116 is `t`
abbrev pub places_in : Unread → Taken ℕ
places_in u = and_then (take_by letter_in u) (λ x. cond (x == 116) size_in (done (Err (bad_at u.place))))

abbrev pub places_of : List ℕ → Result ℕ BadField
places_of bs = whole_line places_in bs

abbrev pub good_lines : List ℕ → List (ChannelLine Channel)
good_lines bs = elim (request_of bs) [ Err e ↦ [] | Ok q ↦ elim q [ Line l ↦ l ∷ [] | Find k ↦ [] | Largest ↦ [] ] ]

-- The limits of a group and of its book. Assumes nothing.
--
-- lines                       the lines of a book
-- workers_min, workers_max    the fewest and the most workers of a group
-- messages_min, messages_max  the fewest and the most message places
use Rattle.std.specs.Prelude.{ℕ}

abbrev pub lines : ℕ
lines = 64

abbrev pub workers_min : ℕ
workers_min = 3

abbrev pub workers_max : ℕ
workers_max = 8

abbrev pub messages_min : ℕ
messages_min = 16

abbrev pub messages_max : ℕ
messages_max = 4096

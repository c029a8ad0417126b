-- The limits of a roster. Assumes nothing.
--
--   entries_max   the most entries that any roster holds
use Rattle.std.specs.Prelude.{ℕ}

abbrev pub entries_max : ℕ
entries_max = 1024

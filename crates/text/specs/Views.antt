-- A reader of lines, by what it has left. Assumes nothing.
--
-- lines_left t   the lines that are still to come
use Rattle.std.specs.Prelude.{ℕ, List}
use Rattle.text.specs.declared.lines.Lines.{Lines}
use Rattle.text.specs.Texts.{lines_of}

abbrev pub lines_left : Lines → List (List ℕ)
lines_left t = lines_of t.rest.now

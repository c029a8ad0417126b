-- What a key table and a key sheet stand for. Assumes nothing.
--
-- | word           | meaning                                                                        |
-- |----------------|--------------------------------------------------------------------------------|
-- | table_capacity | how many pairs the table can hold                                              |
-- | table_pairs    | the pairs in the used places, in their order                                   |
-- | table_beyond   | what the places past the capacity hold                                         |
-- | SameSlice      | two tables lie in one slice, whose places past the capacity hold what they did |
-- | no_lines       | the counts of no lines                                                         |
-- | one_more       | the counts after one line more, which was fit or unfit                         |
-- | sheet_now      | the pairs of a table, and the counts of the lines that were applied to it      |
use Rattle.std.specs.Prelude.{◌≡◌, ℕ, Bool, not, List, length, take, drop}
use Rattle.keylines.specs.declared.lines.Pair.{Pair}
use Rattle.keys.specs.declared.table.KeyTable.{KeyTable}
use Rattle.keys.specs.declared.sheet.KeySheet.{KeySheet}
use Rattle.keylines.specs.Limits.{capacity_of}
use Rattle.keylines.specs.Sheets.{Sheet, counted}

abbrev pub table_capacity : {K : Type 0} → KeyTable K → ℕ
table_capacity t = capacity_of (length t.pairs.now)

abbrev pub table_pairs : {K : Type 0} → KeyTable K → List (Pair K)
table_pairs t = take t.used t.pairs.now

abbrev pub table_beyond : {K : Type 0} → KeyTable K → List (Pair K)
table_beyond t = drop (table_capacity t) t.pairs.now

pub record SameSlice {K : Type 0} (s t : KeyTable K) : Type 0 where
  pub size : length t.pairs.now ≡ length s.pairs.now
  pub beyond : table_beyond t ≡ table_beyond s
  pub named : t.pairs.ghost_name ≡ s.pairs.ghost_name

abbrev pub no_lines : KeySheet
no_lines = record { fit = 0; unfit = 0 }

abbrev pub one_more : Bool → KeySheet → KeySheet
one_more b s = record { fit = counted b s.fit; unfit = counted (not b) s.unfit }

abbrev pub sheet_now : {K : Type 0} → KeyTable K → KeySheet → Sheet K
sheet_now t s = record { pairs = table_pairs t; fit = s.fit; unfit = s.unfit }

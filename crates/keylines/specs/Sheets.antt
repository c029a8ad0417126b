-- The key sheet as a fold over channel lines: the pairs, and the counts of fit and unfit lines. Assumes nothing.
--
-- | word        | meaning                                                                         |
-- |-------------|---------------------------------------------------------------------------------|
-- | Sheet       | the pairs in the order of their places, and the two counts                      |
-- | fits_line   | whether a line is fit: an erase always, a put where there is room for its key   |
-- | line_pairs  | the pairs after a line                                                          |
-- | counted     | a count after one line more, if the line belongs to it; it stops at `count_max` |
-- | applied     | the sheet after one line                                                        |
-- | worked_on   | the sheet after several lines, in their order                                   |
-- | empty_sheet | no pair and no line                                                             |
-- | sheet_of    | the sheet that lines give from the beginning, on a table of a capacity          |
use Rattle.std.specs.Prelude.{ℕ, ◌+◌, min, Bool, true, cond, not, List, [], fold}
use Rattle.keylines.specs.declared.lines.Pair.{Pair}
use Rattle.keylines.specs.declared.lines.ChannelLine.{ChannelLine}
use Rattle.keylines.specs.declared.lines.ChannelLine.TheVariants.{Put, Erase}
use Rattle.keylines.specs.Limits.{count_max}
use Rattle.keylines.specs.Pairs.{room_for, put_pairs, erased_pairs}

pub record Sheet (K : Type 0) : Type 0 where
  pub pairs : List (Pair K)
  pub fit : ℕ
  pub unfit : ℕ

abbrev pub fits_line : {K : Type 0} → (K → K → Bool) → ℕ → List (Pair K) → ChannelLine K → Bool
fits_line alike c ps (Put k w) = room_for alike c k ps
fits_line alike c ps (Erase k) = true

abbrev pub line_pairs : {K : Type 0} → (K → K → Bool) → ℕ → List (Pair K) → ChannelLine K → List (Pair K)
line_pairs alike c ps (Put k w) = put_pairs alike c k w ps
line_pairs alike c ps (Erase k) = erased_pairs alike k ps

abbrev pub counted : Bool → ℕ → ℕ
counted b n = cond b (min (n + 1) count_max) n

abbrev pub applied : {K : Type 0} → (K → K → Bool) → ℕ → Sheet K → ChannelLine K → Sheet K
applied alike c s l =
    record {
      pairs = line_pairs alike c s.pairs l;
      fit = counted (fits_line alike c s.pairs l) s.fit;
      unfit = counted (not (fits_line alike c s.pairs l)) s.unfit;
    }

abbrev pub worked_on : {K : Type 0} → (K → K → Bool) → ℕ → Sheet K → List (ChannelLine K) → Sheet K
worked_on alike c s ls = fold (applied alike c) s ls

abbrev pub empty_sheet : {K : Type 0} → Sheet K
empty_sheet = record { pairs = []; fit = 0; unfit = 0 }

abbrev pub sheet_of : {K : Type 0} → (K → K → Bool) → ℕ → List (ChannelLine K) → Sheet K
sheet_of alike c ls = worked_on alike c empty_sheet ls

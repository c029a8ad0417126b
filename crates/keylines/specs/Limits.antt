-- The limits of a key table and of a key sheet. Assumes nothing.
--
-- | word        | meaning                                                |
-- |-------------|--------------------------------------------------------|
-- | places_max  | the most places of a slice that a table uses: 1,024    |
-- | count_max   | where a sheet's counts stop: 4,294,967,295             |
-- | capacity_of | how many pairs a table on a slice of n places can hold |
use Rattle.std.specs.Prelude.{ℕ, min}

abbrev pub places_max : ℕ
places_max = 1024

abbrev pub count_max : ℕ
count_max = 4294967295

abbrev pub capacity_of : ℕ → ℕ
capacity_of n = min n places_max

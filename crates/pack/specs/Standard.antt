-- The limits of the pack standard, edition 1. Assumes nothing.
--
-- whole n         the whole number n as a 64-bit float
-- charge_most     the largest charge of a Begin, in milliampere-seconds
-- current_least   the least current of a Drain, in milliamperes; current_most the largest
-- seconds_least   the fewest seconds of a Drain or an Idle; seconds_most the most
-- count_most      where a count of lines stops
-- fit_charge, fit_current, fit_seconds: the tests of a line's numbers. A float that is not a number passes none, since each comparison with one is false.
use Rattle.std.specs.Prelude.{ℕ, ◌+◌, min, Bool, ◌&&◌, pos, nat_le, Float}
use Rattle.std.specs.Float.{binary64}
use Rattle.std.specs.Float.Ieee.{of_int, lt, le}

abbrev pub whole : ℕ → Float
whole n = of_int binary64 (pos n)

abbrev pub charge_most : ℕ
charge_most = 1000000000

abbrev pub current_least : ℕ
current_least = 10

abbrev pub current_most : ℕ
current_most = 200000

abbrev pub seconds_least : ℕ
seconds_least = 1

abbrev pub seconds_most : ℕ
seconds_most = 86400

abbrev pub count_most : ℕ
count_most = 4294967295

-- above 0, and at most the largest
abbrev pub fit_charge : Float → Bool
fit_charge q = lt (whole 0) q && le q (whole charge_most)

abbrev pub fit_current : Float → Bool
fit_current c = le (whole current_least) c && le c (whole current_most)

abbrev pub fit_seconds : ℕ → Bool
fit_seconds n = nat_le seconds_least n && nat_le n seconds_most

-- one more, up to where counts stop
abbrev pub counted : ℕ → ℕ
counted n = min (n + 1) count_most

-- The float literals of the code are the whole numbers of the standard: both sides compute to one float.
use Rattle.std.proofs.Common.{◌≡◌, refl, arith}
use Rattle.std.specs.Ordering.{float_partial_cmp, partial_le}
use Rattle.std.proofs.lemmas.Float.{le_of_lt, le_of_eq, lt-or-eq}
use lib.Ieee.{Float, binary64, of_bits, of_int, le}
use Rattle.pack.specs.Standard.{whole, charge_most, current_least, current_most}

pub zero_is : of_bits binary64 0 ≡ whole 0
unfolding of_bits of_int
zero_is = refl

pub charge_most_is : of_bits binary64 4741671816366391296 ≡ whole charge_most
unfolding of_bits of_int
charge_most_is = refl

pub current_least_is : of_bits binary64 4621819117588971520 ≡ whole current_least
unfolding of_bits of_int
current_least_is = refl

pub current_most_is : of_bits binary64 4686111960511545344 ≡ whole current_most
unfolding of_bits of_int
current_most_is = refl

-- a range of floats tests as `<=` does
pub partial_le_is : (x y : Float) → partial_le float_partial_cmp x y ≡ le x y
partial_le_is x y = grind (arith, le_of_lt x y, le_of_eq x y, lt-or-eq x y)

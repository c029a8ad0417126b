-- A float and its bits tell each other: the round trips of the IEEE library, at binary64.
use Rattle.std.proofs.Common.{◌≡◌, ℕ, ◌^◌, ◌<◌, not, true, T, sym, refl, ap, ◌∙◌, subst, inl, inr}
use lib.Ieee.{Float, binary64, fits, of_bits, to_bits}
use lib.Ieee.Bits.{of_bits-to_bits, to_bits-of_bits, nan_bits_is}
use Rattle.pack.specs.Stored.{not_a_number, stored_float, restored_float, ExactBits}

pub float_back : (x : Float) → fits binary64 x ≡ true → restored_float (stored_float x) ≡ x
float_back x f = of_bits-to_bits binary64 x (subst T (sym f) tt)

mark_back : stored_float (restored_float not_a_number) ≡ not_a_number
unfolding of_bits to_bits
mark_back = refl

pub bits_back : (b : ℕ) → b < 2 ^ 64 → ExactBits b → stored_float (restored_float b) ≡ b
bits_back b h (inl number) = to_bits-of_bits binary64 b h (subst (λ x. T (not x)) (sym number ∙ nan_bits_is binary64 b) tt)
bits_back b h (inr mark) = ap (λ x. stored_float (restored_float x)) mark ∙ mark_back ∙ sym mark

-- A pack line as whole numbers, as it lies in lent memory. Assumes nothing.
--
-- not_a_number       the mark in the place of the bits of every float that is not a number
-- stored_float x     the binary64 bits of x, or the mark
-- restored_float b   the float of these bits; not a number for the mark
-- stored_of l        the stored form of the line l
-- restored_of p      the line of the stored form p
-- WorksAlike l l'    every sheet is worked on by l' just as by l
-- Exact p            the bits of p are those of a number, or the mark
-- IsStoredForm l p     p is what l is stored as: l comes back from it, and works alike
-- IsRestoredLine p l   l is the line of p: it is stored as p again, if the bits of p are those of a number, or the mark
use Rattle.std.specs.Prelude.{◌≡◌, ℕ, false, ◌⊎◌, from_bits, to_bits, Float}
use Rattle.std.specs.Float.{binary64}
use Rattle.std.specs.Float.Ieee.{nan_bits}
use Rattle.pack.specs.declared.line.PackLine.{PackLine}
use Rattle.pack.specs.declared.line.PackLine.TheVariants.{Begin, Drain, Idle}
use Rattle.pack.specs.declared.sheet.PackSheet.{PackSheet}
use Rattle.pack.specs.declared.stored.StoredPackLine.{StoredPackLine}
use Rattle.pack.specs.declared.stored.StoredPackLine.TheVariants as Stored
use Rattle.pack.specs.Sheets.{applied}

abbrev pub not_a_number : ℕ
not_a_number = 0x7ff8_0000_0000_0000

-- minus zero and the infinities have bits of their own
abbrev pub stored_float : Float → ℕ
stored_float x = to_bits binary64 x

abbrev pub restored_float : ℕ → Float
restored_float b = from_bits binary64 b

abbrev pub stored_of : PackLine → StoredPackLine
stored_of (Begin q) = Stored.Begin (stored_float q)
stored_of (Drain c n) = Stored.Drain (stored_float c) n
stored_of (Idle n) = Stored.Idle n

abbrev pub restored_of : StoredPackLine → PackLine
restored_of (Stored.Begin b) = Begin (restored_float b)
restored_of (Stored.Drain b n) = Drain (restored_float b) n
restored_of (Stored.Idle n) = Idle n

abbrev pub WorksAlike : PackLine → PackLine → Type 0
WorksAlike l l' = (s : PackSheet) → applied s l' ≡ applied s l

abbrev pub ExactBits : ℕ → Type 0
ExactBits b = (nan_bits binary64 b ≡ false) ⊎ (b ≡ not_a_number)

abbrev pub Exact : StoredPackLine → Type 0
Exact (Stored.Begin b) = ExactBits b
Exact (Stored.Drain b n) = ExactBits b
Exact (Stored.Idle n) = Unit {0}

pub record IsStoredForm (l : PackLine) (p : StoredPackLine) : Type 0 where
  pub value : p ≡ stored_of l
  pub back : restored_of p ≡ l
  pub alike : WorksAlike l (restored_of p)

pub record IsRestoredLine (p : StoredPackLine) (l : PackLine) : Type 0 where
  pub value : l ≡ restored_of p
  pub back : Exact p → stored_of l ≡ p

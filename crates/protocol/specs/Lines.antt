-- Line numbers, sets of lines, and cells. Assumes nothing.
--
-- in_book k      k is a line number, from 1 to 64
-- bit_of k       the bit of line k in a set of lines, which is a 64-bit number; 0 for what is no line number
-- marked m k     the set m has line k
-- cell_of w k    the place of line k of worker w in a table of 64 cells a worker
use Rattle.std.specs.Prelude.{ℕ, ◌+◌, ◌-◌, ◌*◌, ◌^◌, Bool, cond, ◌&&◌, bit_and, nat_le, nat_lt}
use Rattle.protocol.specs.Limits.{lines}

abbrev pub in_book : ℕ → Bool
in_book k = nat_le 1 k && nat_le k lines

abbrev pub bit_of : ℕ → ℕ
bit_of k = cond (in_book k) (2 ^ (k - 1)) 0

abbrev pub marked : ℕ → ℕ → Bool
marked m k = nat_lt 0 (bit_and m (bit_of k))

abbrev pub cell_of : ℕ → ℕ → ℕ
cell_of w k = lines * w + (k - 1)

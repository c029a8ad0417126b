-- An item of a list by its index.
use Rattle.std.proofs.Common.{◌≡◌, ℕ, zero, suc, ◌<◌, List, [], ◌∷◌, length, get_or, Some, refl, arith}
use Rattle.protocol.specs.Items.{item_at}

pub item_read : {X : Type 0} (xs : List X) (i : ℕ) (d : X) → i < length xs → item_at xs i ≡ Some (get_or xs i d)
unfolding item_at
item_read [] i d h = absurd (omega arith)
item_read (x ∷ xs) zero d h = refl
item_read (x ∷ xs) (suc i) d h = item_read xs i d (omega arith)

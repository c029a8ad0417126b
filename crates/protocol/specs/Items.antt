-- The item of a list at an index. Assumes nothing.
--
-- item_at xs i    the item at the index i, counted from 0, if there is one
use Rattle.std.specs.Prelude.{ℕ, zero, suc, List, [], ◌∷◌, Some, None, Option}

unfoldable pub item_at : {X : Type 0} → List X → ℕ → Option X
item_at [] n = None
item_at (x ∷ xs) zero = Some x
item_at (x ∷ xs) (suc n) = item_at xs n

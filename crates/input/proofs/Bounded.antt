-- What a bounded reader gives is the first bytes of what the reader had.
use Rattle.std.specs.Prelude.{◌≡◌, ℕ, List, [], ◌++◌, take, Some, None, Option, IfSome}
use Rattle.std.specs.Option.{option_map}

pub first_bytes : (most : ℕ) (had : Option (List ℕ)) (bytes : List ℕ) → IfSome (option_map (take most) had) (λ xs. bytes ≡ [] ++ xs) → IfSome had (λ all. bytes ≡ take most all)
first_bytes most None bytes given = given
first_bytes most (Some all) bytes given = given

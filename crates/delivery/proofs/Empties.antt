-- Cells that were cleared with no line marked have no line.
use Rattle.std.proofs.Common.{◌≡◌, ℕ, zero, suc, ◌+◌, ◌*◌, ◌<◌, ◌≤◌, List, [], ◌∷◌, get_or, set, None, Option, refl, ap, ◌∙◌, ⊎_elim, arith}
use Rattle.std.proofs.lemmas.List.{get_or-set_other}
use Rattle.std.proofs.lemmas.Bool.{cases_eq}
use Rattle.protocol.specs.Store.{cleared, held, lines_in}

set-none : {L : Type 0} (xs : List (Option L)) (i : ℕ) → get_or (set xs i None) i None ≡ None
set-none [] i = refl
set-none (x ∷ xs) zero = refl
set-none (x ∷ xs) (suc i) = set-none xs i

-- with no line marked, each cell is emptied
emptied_at : {L : Type 0} (w n k : ℕ) (cells : List (Option L)) → k < n → get_or (cleared 0 w n cells) (64 * w + k) None ≡ None
unfolding cleared
emptied_at w zero k cells h = absurd (omega arith)
emptied_at w (suc n) k cells h =
    ⊎_elim
    (λ e. ap (λ j. get_or (set (cleared 0 w n cells) (64 * w + n) None) (64 * w + j) None) e ∙ set-none (cleared 0 w n cells) (64 * w + n))
    (λ ne. get_or-set_other (cleared 0 w n cells) (64 * w + n) (64 * w + k) None None (λ q. ne (omega arith)) ∙ emptied_at w n k cells (omega arith))
    (cases_eq k n)

pub lines_emptied : {L : Type 0} (w n m : ℕ) (cells : List (Option L)) → n ≤ m → lines_in w n (cleared 0 w m cells) ≡ 0
unfolding lines_in
lines_emptied w zero m cells h = refl
lines_emptied w (suc n) m cells h =
    let a = lines_emptied w n m cells (omega arith) in
    let b = ap held (emptied_at w m n cells (omega arith)) in
    omega arith

-- A worker that the group does not have holds nothing: its cells would lie past the table.
use Rattle.std.proofs.Common.{◌≡◌, ℕ, zero, suc, ◌≤◌, List, [], ◌∷◌, length, get_or, None, Option, sym, refl, arith}
use Rattle.std.proofs.lemmas.Bool.{cond_both}
use Rattle.protocol.specs.Lines.{cell_of, in_book}
use Rattle.protocol.specs.Runs.{holds}
use Rattle.protocol.specs.Store.{Store, cell_at, made_in}
use Rattle.memory.specs.Views.{SizedIn}

past_none : {L : Type 0} (cells : List (Option L)) (i : ℕ) → length cells ≤ i → get_or cells i None ≡ None
past_none [] i h = refl
past_none (x ∷ xs) zero h = absurd (omega arith)
past_none (x ∷ xs) (suc i) h = past_none xs i (omega arith)

pub stranger_none : {L : Type 0} (g : Store L) (w k : ℕ) → SizedIn g → length g.workers ≤ w → None ≡ holds g w k
stranger_none {L} g w k s h =
    let l = s.learneds in
    let P : Option L → Type 0 = λ o. None ≡ o in
    cond_both (made_in g) _ None P (λ _. cond_both (in_book k) (cell_at g.learned w k) None P (λ _. sym (past_none g.learned (cell_of w k) (omega arith))) (λ _. refl)) (λ _. refl)

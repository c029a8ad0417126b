-- The lines 1 to j of a worker: one line more is joined to those before it, and a missing line leaves every later book missing.
use Rattle.std.proofs.Common.{◌≡◌, ℕ, zero, suc, ◌-◌, ◌<◌, ◌≤◌, false, List, is_some, Some, None, Option, sym, refl, ap, ◌∙◌, arith}
use native.Mathlib.Decide.{dec_lt}
use Rattle.protocol.specs.Runs.{holds, joined, book_to}
use Rattle.protocol.specs.Store.{Store}

-- a test that found no line
pub none_of : {X : Type 0} (o : Option X) → is_some o ≡ false → o ≡ None
none_of None e = refl
none_of (Some x) e = absurd (grind arith)

joined-none : {L : Type 0} (o : Option (List L)) → joined o None ≡ None
joined-none None = refl
joined-none (Some ls) = refl

module _ {L : Type 0} (g : Store L) (w : ℕ) where
  pub one_more : (k : ℕ) → 0 < k → book_to g w k ≡ joined (book_to g w (k - 1)) (holds g w k)
  one_more zero h = absurd (omega arith)
  one_more (suc i) h = let same : i ≡ suc i - 1 = omega arith in ap (λ n. joined (book_to g w n) (holds g w (suc i))) same

  pub stays_missing : (k : ℕ) → 0 < k → None ≡ holds g w k → (j : ℕ) → k ≤ j → book_to g w j ≡ None
  stays_missing k p e zero h = absurd (omega arith)
  stays_missing k p e (suc j) h =
      elim (dec_lt j k) [
        | yes lt ↦ let same : suc j ≡ k = omega arith in
            ap (λ n. joined (book_to g w j) (holds g w n)) same ∙ ap (joined (book_to g w j)) (sym e) ∙ joined-none (book_to g w j)
        | no le ↦ ap (λ o. joined o (holds g w (suc j))) (stays_missing k p e j (omega arith))
      ]

-- When `==` calls two stored lines the same. Assumes nothing.
--
-- eq_is_same p q   yes exactly when all their numbers are equal
use Rattle.std.specs.Prelude.{◌≡◌, ◌↔◌, IsTrue}
use Rattle.std.proofs.Common.{arith}
use Rattle.std.proofs.lemmas.Grind.{common_steps}
use Rattle.pack.specs.contracts.stored.StoredPackLinePartialEq.TheImpl.{ghosts}
use Rattle.pack.specs.declared.stored.StoredPackLine.{StoredPackLine}

pub eq_is_same : (p q : StoredPackLine) → IsTrue (ghosts.eq p q) ↔ (p ≡ q)
eq_is_same p q = (λ h. grind (arith, common_steps), λ h. grind (arith, common_steps))

-- The letter's rule is what the constructor makes of the numbers.
use Rattle.protocol.specs.declared.step.Step.TheVariants.{Read, Lead, Prepare, Carry, Reseat, Lose}
use Rattle.commands.proofs.read.take_step.Goals as goal

pub returns-in-R : goal.returns-in-R
returns-in-R c = rw c.in-R.is (c.take_one-in-R.ensures Read (λ n r h. h))

pub returns-in-L : goal.returns-in-L
returns-in-L c = rw c.in-L.is (c.take_one-in-L.ensures Lead (λ n r h. h))

pub returns-in-P : goal.returns-in-P
returns-in-P c = rw c.in-P.is (c.take_one-in-P.ensures Prepare (λ n r h. h))

pub returns-in-X : goal.returns-in-X
returns-in-X c = rw c.in-X.is (c.take_one-in-X.ensures Lose (λ n r h. h))

pub returns-in-C : goal.returns-in-C
returns-in-C c = rw c.in-C.is (c.take_two-in-C.ensures Carry (λ m n r h. h))

pub returns-in-S : goal.returns-in-S
returns-in-S c = rw c.in-S.is (c.take_two-in-S.ensures Reseat (λ m n r h. h))

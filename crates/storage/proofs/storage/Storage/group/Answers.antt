-- The slices that the group is made in hold what the vectors do.
use Rattle.storage.proofs.storage.Storage.group.Goals as goal

pub returns-clause-promise : goal.returns-clause-promise
returns-clause-promise g c =
    λ sized. c.new.ensures.promise
    (rw (c.as_mut_slice.ensures.value, c.as_mut_slice-2.ensures.value, c.as_mut_slice-3.ensures.value, c.as_mut_slice-4.ensures.value, c.as_mut_slice-5.ensures.value) sized)

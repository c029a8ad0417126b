-- Every row of the table holds: both sides compute to the same value.
use Rattle.std.proofs.Common.{refl}
use lib.Ieee.{of_int, mul, sub, div, lt, le}
use Rattle.cases.specs.Table.{EveryCaseHolds}

pub every_case : EveryCaseHolds
unfolding of_int mul sub div lt le
every_case =
    ((refl, refl, refl, refl), ((refl, refl, refl, refl), ((refl, refl, refl, refl), ((refl, refl, refl, refl), ((refl, refl, refl, refl), ((refl, refl, refl, refl), (refl, (refl, tt))))))))

-- The bounds of a plain roster. Assumes nothing.
--
--   plain_bounded s   a plain roster is within its bounds, by the facts that its struct keeps
use Rattle.std.specs.Prelude.{◌≡◌, ◌≤◌, length, take}
use Rattle.std.proofs.Common.{arith}
use Rattle.std.proofs.lemmas.List.{length-take-le}
use Rattle.roster.specs.declared.plain.PlainRoster.{PlainRoster}
use Rattle.roster.specs.Limits.{entries_max}
use Rattle.roster.specs.Model.{Bounded}
use Rattle.roster.specs.Views.{plain_model}

pub plain_bounded : {E : Type 0} (s : PlainRoster E) → Bounded (plain_model s)
plain_bounded s =
    let e : length (take s.len s.table.now) ≡ s.len = length-take-le s.len s.table.now s.fits in
    let l : s.len ≤ length s.table.now = s.fits in
    let m : s.len ≤ entries_max = s.small in
    record { fits = omega arith; small = omega arith }

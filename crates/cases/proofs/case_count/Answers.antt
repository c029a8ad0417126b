-- The table's length, and the table.
use Rattle.std.proofs.Common.{refl}
use Rattle.cases.proofs.Rows.{every_case}
use Rattle.cases.proofs.case_count.Goals as goal

pub returns : goal.returns
returns c = record { value = refl; hold = every_case }

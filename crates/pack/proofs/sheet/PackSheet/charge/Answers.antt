-- The charge of a sheet of lines is in range.
use Rattle.pack.proofs.Ranges.{charge_in_range}
use Rattle.pack.proofs.sheet.PackSheet.charge.Goals as goal

pub returns-clause-range : goal.returns-clause-range
returns-clause-range c = charge_in_range c.args.self.now

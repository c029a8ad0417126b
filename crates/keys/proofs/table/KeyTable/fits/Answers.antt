-- Where the key is not held, a put is fit exactly where a place is free.
use Rattle.std.proofs.Common.{rules}
use Rattle.keylines.proofs.Puts.{is_some-position}
use Rattle.keys.proofs.table.KeyTable.fits.Goals as goal

pub returns-else-is_some : goal.returns-else-is_some
returns-else-is_some g c = let h = is_some-position g.K.Key.alike c.in-Put.key c.used_pairs.result.now in search rules

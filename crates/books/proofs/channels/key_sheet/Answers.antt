-- Equal sheets follow from the promises of every run.
use Rattle.keys.specs.Views.{table_capacity}
use Rattle.group.specs.Views.{store_of}
use Rattle.books.proofs.Alike.{equal_keys}
use Rattle.books.proofs.channels.key_sheet.Goals as goal

pub returns-clause-equal : goal.returns-clause-equal
returns-clause-equal g c m = equal_keys g.K.Key.alike (table_capacity c.args.table.now) (store_of c.args.group.now m) c.args.worker c.args.to

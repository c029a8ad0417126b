-- Equal sheets follow from the promises of every run.
use Rattle.group.specs.Views.{store_of}
use Rattle.books.proofs.Alike.{equal_packs}
use Rattle.books.proofs.packs.pack_sheet.Goals as goal

pub returns-clause-equal : goal.returns-clause-equal
returns-clause-equal c m = equal_packs (store_of c.args.group.now m) c.args.worker c.args.to

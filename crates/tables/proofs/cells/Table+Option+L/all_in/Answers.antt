-- Each cell of the row is tested.
use Rattle.std.proofs.Common.{rules, ◌∙◌}
use borrow.Author.Tests.{tests}
use Rattle.std.proofs.lemmas.Iterator.{YieldsList-from_slice}
use Rattle.std.proofs.lemmas.Iterator.Consumers.{YieldsList-from_enumerate, YieldsList-at}
use Rattle.std.proofs.lemmas.Iterator.Search.{all_from_yields_List}
use Rattle.tables.specs.Views.{row_of}
use Rattle.tables.proofs.Rows.{passes, marks_row}
use Rattle.tables.proofs.cells.Table+Option+L.all_in.Goals as goal

pub returns : goal.returns
returns g c =
    let cells = c.args.self.now.all.now in
    all_from_yields_List (passes c.args.carried) _ _ _ c.all.ensures.ran (YieldsList-from_enumerate (YieldsList-at c.enumerate.ensures.source (YieldsList-from_slice (row_of c.args.w cells) (c.iter.ensures.rest ∙ c.row.ensures.cells))) c.enumerate.ensures.count) (λ x b q k. search (rules, tests))
    ∙ marks_row c.args.carried c.args.w 64 cells c.requires

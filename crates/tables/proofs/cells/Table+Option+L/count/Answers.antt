-- The lines of the row are counted.
use Rattle.std.proofs.Common.{rules, sym, ◌∙◌, arith}
use borrow.Author.Tests.{tests}
use Rattle.std.specs.Option.{is_some}
use Rattle.std.proofs.lemmas.Iterator.{YieldsList-from_slice}
use Rattle.std.proofs.lemmas.Iterator.Consumers.{YieldsList-from_filter, YieldsList-at, count_from_yields_List}
use Rattle.tables.specs.Views.{row_of}
use Rattle.tables.proofs.Counts.{lines-few}
use Rattle.tables.proofs.Rows.{lines_row}
use Rattle.tables.proofs.cells.Table+Option+L.count.Goals as goal

pub returns : goal.returns
returns g c =
    let cells = c.args.self.now.all.now in
    count_from_yields_List _ c.count.result c.count.ensures.ran (YieldsList-from_filter _ is_some (YieldsList-at c.filter.ensures.source (YieldsList-from_slice (row_of c.args.w cells) (c.iter.ensures.rest ∙ c.row.ensures.cells))) c.filter.ensures.closure (λ x b q k. search (rules, tests)))
    ∙ sym (lines_row c.args.w 64 cells c.requires)

pub overflow_cast-result : goal.overflow_cast-result
overflow_cast-result g c = let e = returns g c in let f = lines-few c.args.w 64 c.args.self.now.all.now in omega arith

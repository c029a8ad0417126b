-- An item of the used places is that of the table.
use Rattle.std.proofs.Common.{take, Some, ap, ◌∙◌, arith}
use Rattle.std.proofs.lemmas.List.{length-take, get_or-take}
use Rattle.tables.proofs.Items.{item_read}
use Rattle.tables.proofs.lent.LentList.get.Goals as goal

pub returns : goal.returns
returns g c =
    let s = c.args.self.now in
    let x = c.index-self-i.result in
    let e = length-take s.len s.table.now in
    item_read (take s.len s.table.now) c.args.i _ c.requires ∙ ap Some (get_or-take s.len s.table.now c.args.i _ (omega arith))

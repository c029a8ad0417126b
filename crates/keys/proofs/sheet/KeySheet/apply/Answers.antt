-- The laws for one line more are those of a list of one.
use Rattle.std.proofs.Common.{[], ◌∷◌, rules}
use Rattle.keys.specs.Views.{sheet_now, table_capacity}
use Rattle.keylines.proofs.Histories.{lawful_on}
use Rattle.keys.proofs.sheet.KeySheet.apply.Goals as goal

pub returns-clause-law : goal.returns-clause-law
returns-clause-law g c before f =
    let t = c.args.table.now in
    let s = c.args.self.now in
    lawful_on g.K.Key.alike g.met.K.Key.exact g.met.K.Key.itself (table_capacity t) before (c.args.line ∷ []) (sheet_now t s) (sheet_now c.apply-fit.new.self c.count.new.self) f (search rules)

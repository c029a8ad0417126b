-- The last used pair stands in the gap; the law follows from the pairs after the erase.
use Rattle.std.proofs.Common.{rules}
use Rattle.keylines.proofs.Erases.{erase_over}
use Rattle.keylines.proofs.Words.{erase_law}
use Rattle.keys.specs.Views.{table_pairs}
use Rattle.keys.proofs.table.KeyTable.erase.Goals as goal

pub returns-in-Some-clause-after : goal.returns-in-Some-clause-after
returns-in-Some-clause-after g c =
    let t = c.args.self.now in
    erase_over g.K.Key.alike c.args.key t.pairs.now t.used c.in-Some.i _ t.within (search rules) (search rules)

pub returns-in-Some-clause-law : goal.returns-in-Some-clause-law
returns-in-Some-clause-law g c =
    let t = c.args.self.now in
    let after = erase_over g.K.Key.alike c.args.key t.pairs.now t.used c.in-Some.i _ t.within (search rules) (search rules) in
    erase_law g.K.Key.alike g.met.K.Key.exact g.met.K.Key.itself c.args.key (table_pairs t) _ after

pub returns-in_default-clause-law : goal.returns-in_default-clause-law
returns-in_default-clause-law g c =
    let t = c.args.self.now in
    erase_law g.K.Key.alike g.met.K.Key.exact g.met.K.Key.itself c.args.key (table_pairs t) _ (search rules)

-- Where the key is held, its pair is written over; the law follows from the pairs after the put.
use Rattle.std.proofs.Common.{true, arith, rules}
use Rattle.std.proofs.lemmas.Grind.{common_steps}
use Rattle.keys.specs.Views.{table_capacity, table_pairs}
use Rattle.keylines.proofs.Puts.{put_over}
use Rattle.keylines.proofs.Words.{put_law}
use Rattle.keys.proofs.table.KeyTable.put.Goals as goal

pub returns-in-Some-clause-after : goal.returns-in-Some-clause-after
returns-in-Some-clause-after g c =
    let t = c.args.self.now in
    put_over g.K.Key.alike c.args.key (table_capacity t) c.args.words t.pairs.now t.used c.in-Some.i t.within (search rules)

pub returns-in-Some-clause-law : goal.returns-in-Some-clause-law
returns-in-Some-clause-law g c =
    let t = c.args.self.now in
    let after = put_over g.K.Key.alike c.args.key (table_capacity t) c.args.words t.pairs.now t.used c.in-Some.i t.within (search rules) in
    put_law g.K.Key.alike g.met.K.Key.exact g.met.K.Key.itself (table_capacity t) c.args.key c.args.words true (table_pairs t) _ (search rules) after

pub returns-clause-law : goal.returns-clause-law
returns-clause-law g c =
    let t = c.args.self.now in
    put_law g.K.Key.alike g.met.K.Key.exact g.met.K.Key.itself (table_capacity t) c.args.key c.args.words true (table_pairs t) _ (search rules) (grind (arith, common_steps))

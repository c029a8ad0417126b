-- A turn takes one key more into the fold; the law follows for all pairs.
use Rattle.std.proofs.Common.{◌≡◌, sym, ap, ◌∙◌, subst, arith, rules}
use Rattle.std.proofs.lemmas.List.{take_all}
use Rattle.std.proofs.lemmas.List.Sums.{fold_more}
use Rattle.keylines.specs.Laws.{Largest}
use Rattle.keylines.specs.Pairs.{largest_of}
use Rattle.keylines.proofs.Tops.{largest_law}
use Rattle.keys.proofs.places.largest_key.Goals as goal

pub loop-pair-preserved : goal.loop-pair-preserved
loop-pair-preserved g c = search (rules, fold_more)

pub returns : goal.returns
returns g c =
    let ps = c.args.pairs.now in
    let above = g.K.OrderedKey.above in
    let k = g.met.K.OrderedKey in
    let e : c.loop-pair.best ≡ largest_of above ps = c.loop-pair.invariant ∙ ap (largest_of above) (take_all c.loop-pair.pair-index ps (omega arith)) in
    record { value = e; law = subst (Largest above ps) (sym e) (largest_law above k.total k.transitive k.strict ps) }

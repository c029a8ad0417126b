-- The largest key of the pairs so far.
use Rattle.std.proofs.Common.{◌≡◌, take}
use Rattle.keylines.specs.Pairs.{largest_of}
use Rattle.keys.proofs.places.largest_key.Given as goal

abbrev pub invariant-loop-pair : goal.invariant-loop-pair
invariant-loop-pair g l = l.best ≡ largest_of g.K.OrderedKey.above (take l.pair-index l.pairs)

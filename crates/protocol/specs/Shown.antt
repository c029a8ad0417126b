-- What is written of a layer. Assumes nothing.
--
-- layer_text l   the name of a layer
use Rattle.std.specs.Prelude.{ℕ, List, codes}
use Rattle.protocol.specs.declared.fault.Layer.{Layer}
use Rattle.protocol.specs.declared.fault.Layer.TheVariants.{Group, Roster}

abbrev pub layer_text : Layer → List ℕ
layer_text Group = codes "group"
layer_text Roster = codes "roster"

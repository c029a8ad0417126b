-- What a group and its roster hold. Assumes nothing.
--
-- store_of s m     the group s and a roster m, as the store that the protocol's definitions and promises are over
-- workers_in g     how many workers the store g has, if its sizes are right
use Rattle.std.specs.Prelude.{ℕ, cond, length, Some, None, Option}
use Rattle.roster.specs.declared.entry.Entry.{Entry}
use Rattle.roster.specs.Model.{RosterModel}
use Rattle.protocol.specs.Store.{Store, made_in}
use Rattle.memory.specs.Views.{store_in}
use Rattle.group.specs.declared.state.Group.{Group}

abbrev pub store_of : {L : Type 0} → Group L → RosterModel (Entry L) → Store L
store_of s m = store_in s.memory m

abbrev pub workers_in : {L : Type 0} → Store L → Option ℕ
workers_in g = cond (made_in g) (Some (length g.workers)) None

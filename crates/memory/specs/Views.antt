-- What a group's lent memory holds. Assumes nothing.
--
-- store_in s m    the memory s and a roster m, as the store that the protocol's definitions are over
-- no_roster       an empty roster without a place, beside a step that knows no roster
-- SizedIn g       the sizes of the store g are those of a group
-- HasWorker s w   the memory s has the sizes of a group, and a worker w
use Rattle.std.specs.Prelude.{ℕ, ◌<◌, [], length}
use Rattle.roster.specs.declared.entry.Entry.{Entry}
use Rattle.roster.specs.Model.{RosterModel, opened}
use Rattle.protocol.specs.Sizes.{Sized}
use Rattle.protocol.specs.Store.{Store}
use Rattle.tables.specs.Views.{list_of, places_of, table_of}
use Rattle.memory.specs.declared.state.Memory.{Memory}

abbrev pub store_in : {L : Type 0} → Memory L → RosterModel (Entry L) → Store L
store_in s m = record {
  workers = table_of s.workers;
  hand = table_of s.hand;
  accepted = table_of s.accepted;
  learned = table_of s.learned;
  messages = list_of s.messages;
  places = places_of s.messages;
  roster = m;
}

abbrev pub no_roster : {L : Type 0} → RosterModel (Entry L)
no_roster = opened [] 0

abbrev pub SizedIn : {L : Type 0} → Store L → Type 0
SizedIn g = Sized (length g.workers) (length g.hand) (length g.accepted) (length g.learned) g.places

pub record HasWorker {L : Type 0} (s : Memory L) (w : ℕ) : Type 0 where
  pub sized : SizedIn (store_in s no_roster)
  pub known : w < length (table_of s.workers)

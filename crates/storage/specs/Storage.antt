-- What storage for a group holds. Assumes nothing.
--
-- HasSizes s n c p   the storage s has n worker records, c cells in each of its three tables, and p message places
-- begun_in s m       the store of a group that was made in the storage s, beside the roster m
-- sized_in s         whether the sizes of the storage s are those of a group
use Rattle.std.specs.Prelude.{◌≡◌, ℕ, Bool, length}
use Rattle.roster.specs.declared.entry.Entry.{Entry}
use Rattle.roster.specs.Model.{RosterModel}
use Rattle.protocol.specs.Sizes.{sized_test}
use Rattle.protocol.specs.Store.{Store, made_of}
use Rattle.storage.specs.declared.storage.Storage.{Storage}

pub record HasSizes {L : Type 0} (s : Storage L) (n c p : ℕ) : Type 0 where
  pub workers : length s.workers.items ≡ n
  pub hand : length s.hand.items ≡ c
  pub accepted : length s.accepted.items ≡ c
  pub learned : length s.learned.items ≡ c
  pub messages : length s.messages.items ≡ p

abbrev pub begun_in : {L : Type 0} → Storage L → RosterModel (Entry L) → Store L
begun_in s m = made_of s.workers.items s.hand.items s.accepted.items s.learned.items (length s.messages.items) m

abbrev pub sized_in : {L : Type 0} → Storage L → Bool
sized_in s = sized_test (length s.workers.items) (length s.hand.items) (length s.accepted.items) (length s.learned.items) (length s.messages.items)

-- What a roster stands for. Assumes nothing.
--
--   RosterState     whether a roster is open
--   RosterModel     a roster's list of entries, its capacity and its state; the entry at place p is the p-th, from 1
--   readable m      the state lets entries be read
--   appendable m    the state lets entries be appended
--   Bounded m       no more entries stand than the capacity, and the capacity is within the limit of all rosters
--   opened es n     an open roster of capacity n with the entries es
use Rattle.std.specs.Prelude.{ℕ, ◌≤◌, Bool, true, List, length}
use Rattle.roster.specs.Limits.{entries_max}

pub record RosterState : Type 0 where
  pub is_open : Bool

pub record RosterModel (E : Type 0) : Type 0 where
  pub entries : List E
  pub capacity : ℕ
  pub state : RosterState

abbrev pub readable : {E : Type 0} → RosterModel E → Bool
readable m = m.state.is_open

abbrev pub appendable : {E : Type 0} → RosterModel E → Bool
appendable m = m.state.is_open

pub record Bounded {E : Type 0} (m : RosterModel E) : Type 0 where
  pub fits : length m.entries ≤ m.capacity
  pub small : m.capacity ≤ entries_max

abbrev pub opened : {E : Type 0} → List E → ℕ → RosterModel E
opened es n = record { entries = es; capacity = n; state = record { is_open = true } }

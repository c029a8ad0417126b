-- What is promised of one store of a run, and of the longer run after a step. Assumes nothing.
--
-- recorded ss g h     the history h after the steps ss on the store g
-- Agreed, Originated, Kept, SameBooks, Seated, Reachable: what is promised of one store of a run
-- Promised            all of them
-- Onward, Played      a step, or any steps, on a store of a run: the longer run, and all promises of the store that they leave
-- GoesOn, PlaysOn     the same from whatever run led to the store
-- Begins              a store begins a run
use Rattle.std.specs.Prelude.{◌≡◌, ℕ, ◌+◌, ◌<◌, ◌≤◌, true, List, [], ◌∷◌, length, Some, ◌≢◌}
use Rattle.roster.specs.Model.{readable, appendable}
use Rattle.protocol.specs.declared.step.Step.{Step}
use Rattle.protocol.specs.Limits.{lines}
use Rattle.protocol.specs.Words.{Proposed, accepted-under, Newest}
use Rattle.protocol.specs.Store.{Store, step_after}
use Rattle.protocol.specs.Runs.{History, Run, Event, Way, holds, happen, book_to, unread, grown, nothing}

module _ {L : Type 0} where
  -- two workers that hold line k hold the same line there
  abbrev pub Agreed : Store L → Type 0
  Agreed g = (w u k : ℕ) (l m : L) → holds g w k ≡ Some l → holds g u k ≡ Some m → l ≡ m

  -- each line held for k was proposed for k before
  abbrev pub Originated : Store L → History L → Type 0
  Originated g h = (w k : ℕ) (l : L) → holds g w k ≡ Some l → Proposed h.proposed k l

  -- a line once held by a worker stays held by it, the same, whatever happens
  abbrev pub Kept : Store L → Type 0
  Kept g = (es : List (Event L)) (w k : ℕ) (l : L) → holds g w k ≡ Some l → holds (happen es g) w k ≡ Some l

  -- workers that both hold lines 1 to j hold the same lines, from which every sheet is worked out
  abbrev pub SameBooks : Store L → Type 0
  SameBooks g = (w u j : ℕ) (ls ms : List L) → book_to g w j ≡ Some ls → book_to g u j ≡ Some ms → ls ≡ ms

  -- a roster with an entry has a newest Seat entry, so that there is a seat
  abbrev pub Seated : Store L → Type 0
  Seated g = 0 < length g.roster.entries → (e : ℕ) × (x : ℕ) × Newest g.roster.entries e x

  -- From an open roster with an entry and a free place, each worker outside the seat can come to hold any line k by a way of u + v + 7 steps, where u
  -- counts the roster entries that it has not read and v the lines accepted under the newest Seat entry, if the messages have v + 4 free places.
  abbrev pub Reachable : Store L → History L → Type 0
  Reachable g h =
      readable g.roster ≡ true → appendable g.roster ≡ true → 0 < length g.roster.entries → length g.roster.entries < g.roster.capacity
      → (e x : ℕ) → Newest g.roster.entries e x → (w k : ℕ) (l : L) → w < length g.workers → (w ≢ x) → 0 < k → k ≤ lines
      → length g.messages + accepted-under e h.accepted + 4 ≤ g.places → Way g w k l (unread g w + accepted-under e h.accepted + 7)

  -- all that is promised of a store to which a run with the history h led
  pub record Promised (g : Store L) (h : History L) : Type 0 where
    pub agreement : Agreed g
    pub origin : Originated g h
    pub permanence : Kept g
    pub equal_sheets : SameBooks g
    pub some_seat : Seated g
    pub progress : Reachable g h

  -- the history after steps
  abbrev pub recorded : List (Step L) → Store L → History L → History L
  recorded [] g h = h
  recorded (s ∷ ss) g h = recorded ss (step_after s g) (grown s g h)

  -- the step s on the store g of a run with the history h leaves the store g' of the longer run, where all promises hold
  pub record Onward (s : Step L) (g g' : Store L) (h : History L) : Type 0 where
    pub run : Run L g' (grown s g h)
    pub promised : Promised g' (grown s g h)

  -- the same of any steps, one after the other
  pub record Played (ss : List (Step L)) (g g' : Store L) (h : History L) : Type 0 where
    pub run : Run L g' (recorded ss g h)
    pub promised : Promised g' (recorded ss g h)

  -- from whatever run led to the store g
  abbrev pub GoesOn : Step L → Store L → Store L → Type 0
  GoesOn s g g' = (h : History L) → Run L g h → Onward s g g' h

  abbrev pub PlaysOn : List (Step L) → Store L → Store L → Type 0
  PlaysOn ss g g' = (h : History L) → Run L g h → Played ss g g' h

  -- a run of no steps, where all promises hold
  pub record Begins (g : Store L) : Type 0 where
    pub run : Run L g nothing
    pub promised : Promised g nothing

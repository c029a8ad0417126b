-- Runs of a group and its roster, and what is promised of every one. Assumes nothing.
--
-- History             which lines were proposed, and which were accepted under which Seat entry
-- grown s g h         the history h after the step s on the store g
-- fresh               a made group, and an empty roster
-- holds g w k         the line that worker w holds as line k
-- Run L g h           some run leads to the store g with the history h
-- Event               a step, or the owner's opening or shutting of the roster
-- book_to g w j       the lines 1 to j, where worker w holds them all
-- Way                 a list of steps to line k
-- Agreement, Origin, Permanence, EqualSheets, Progress: the promises
use Rattle.std.specs.Prelude.{◌≡◌, ℕ, zero, suc, ◌+◌, ◌-◌, ◌*◌, ◌<◌, ◌≤◌, true, false, cond, List, [], ◌∷◌, ◌++◌, length, replicate, is_ok, Some, None, Ok, Err, Option, Result, ◌≢◌}
use Rattle.roster.specs.Model.{RosterState, readable, appendable}
use Rattle.protocol.specs.declared.message.Message.{Message}
use Rattle.protocol.specs.declared.message.Message.TheVariants.{Prepare as prepare, Proposal as proposal, Promise as promise, Report as report, Learn as learn}
use Rattle.protocol.specs.declared.fault.StepFault.{StepFault}
use Rattle.protocol.specs.declared.step.Answer.{Answer}
use Rattle.protocol.specs.declared.step.Answer.TheVariants.{Done, Held}
use Rattle.protocol.specs.declared.step.Step.{Step}
use Rattle.protocol.specs.declared.step.Step.TheVariants.{Found, Read, Lead, Prepare, Propose, Carry, Reseat, Deliver, Lose}
use Rattle.protocol.specs.declared.fault.Refusal.{Refusal}
use Rattle.protocol.specs.Faults.{worker_in}
use Rattle.protocol.specs.Items.{item_at}
use Rattle.protocol.specs.Limits.{lines}
use Rattle.protocol.specs.Lines.{in_book}
use Rattle.protocol.specs.Sizes.{Sized}
use Rattle.protocol.specs.Words.{Proposed, accepted-under, proposals, Newest}
use Rattle.protocol.specs.Store.{Store, blank, cell_at, worker_of, made_in, owned, step_result, step_after, step_answer}
use Rattle.protocol.specs.declared.fault.StepFault.TheVariants.{Unmade}

-- what has been proposed, and the lines accepted under the Seat entry at a place
pub record History (L : Type 0) : Type 0 where
  pub proposed : List (ℕ × L)
  pub accepted : List (ℕ × ℕ)

abbrev pub nothing : {L : Type 0} → History L
nothing = record { proposed = []; accepted = [] }

module _ {L : Type 0} where
  -- a Propose that answered ok
  abbrev pub proposes : Step L → Result Answer StepFault → List (ℕ × L) → List (ℕ × L)
  proposes (Propose w k l) (Ok Done) ps = (k, l) ∷ ps
  proposes (Propose w k l) (Ok Held) ps = ps
  proposes (Propose w k l) (Err f) ps = ps
  proposes (Found a) r ps = ps
  proposes (Read w) r ps = ps
  proposes (Lead w) r ps = ps
  proposes (Prepare w) r ps = ps
  proposes (Carry w k) r ps = ps
  proposes (Reseat w b) r ps = ps
  proposes (Deliver m w) r ps = ps
  proposes (Lose m) r ps = ps

  -- a Proposal that was delivered and not refused
  abbrev pub accepts_of : Option (Message L) → List (ℕ × ℕ) → List (ℕ × ℕ)
  accepts_of None hs = hs
  accepts_of (Some (prepare from to e c)) hs = hs
  accepts_of (Some (proposal from to e c k l)) hs = (e, k) ∷ hs
  accepts_of (Some (promise from to e c n)) hs = hs
  accepts_of (Some (report from to e c k l)) hs = hs
  accepts_of (Some (learn from k l)) hs = hs

  abbrev pub accepts : Step L → Result Answer StepFault → Store L → List (ℕ × ℕ) → List (ℕ × ℕ)
  accepts (Deliver m w) (Ok Done) g hs = accepts_of (item_at g.messages m) hs
  accepts (Deliver m w) (Ok Held) g hs = hs
  accepts (Deliver m w) (Err f) g hs = hs
  accepts (Propose w k l) r g hs = hs
  accepts (Found a) r g hs = hs
  accepts (Read w) r g hs = hs
  accepts (Lead w) r g hs = hs
  accepts (Prepare w) r g hs = hs
  accepts (Carry w k) r g hs = hs
  accepts (Reseat w b) r g hs = hs
  accepts (Lose m) r g hs = hs

  -- the history after a step
  abbrev pub grown : Step L → Store L → History L → History L
  grown s g h = record { proposed = proposes s (step_result s g) h.proposed; accepted = accepts s (step_result s g) g h.accepted }

  -- a made group with an empty roster
  abbrev pub fresh : ℕ → ℕ → ℕ → RosterState → Store L
  fresh n room cap t = record {
    workers = replicate n blank;
    hand = replicate (lines * n) None;
    accepted = replicate (lines * n) None;
    learned = replicate (lines * n) None;
    messages = [];
    places = room;
    roster = record { entries = []; capacity = cap; state = t };
  }

  -- the line that worker w holds as line k: what its learned cell has
  abbrev pub holds : Store L → ℕ → ℕ → Option L
  holds g w k = cond (made_in g) (cond (in_book k) (cell_at g.learned w k) None) None

-- all runs: steps in any order and number, refused or not, with the roster opened or shut in between
pub data Run (L : Type 0) : Store L → History L → Type 0 where
  start : (n room cap : ℕ) (t : RosterState) → Sized n (lines * n) (lines * n) (lines * n) room → Run L (fresh n room cap t) nothing
  next : {g : Store L} {h : History L} → Run L g h → (s : Step L) → Run L (step_after s g) (grown s g h)
  owner : {g : Store L} {h : History L} → Run L g h → (t : RosterState) → Run L (owned t g) h

-- a step of the caller, or the owner's
pub data Event (L : Type 0) : Type 0 where
  steps : Step L → Event L
  opens : RosterState → Event L

module _ {L : Type 0} where
  abbrev pub happens : Event L → Store L → Store L
  happens (steps s) g = step_after s g
  happens (opens t) g = owned t g

  abbrev pub happen : List (Event L) → Store L → Store L
  happen [] g = g
  happen (e ∷ es) g = happen es (happens e g)

  abbrev pub plays : List (Step L) → Store L → Store L
  plays [] g = g
  plays (s ∷ ss) g = plays ss (step_after s g)

  -- none of these steps is refused
  abbrev pub Clear : Store L → List (Step L) → Type 0
  Clear g [] = Unit {0}
  Clear g (s ∷ ss) = (is_ok (step_result s g) ≡ true) × Clear (step_after s g) ss

  abbrev pub joined : Option (List L) → Option L → Option (List L)
  joined None o = None
  joined (Some ls) None = None
  joined (Some ls) (Some l) = Some (ls ++ (l ∷ []))

  -- a way of i steps to line k, with one Propose
  pub record Way (g : Store L) (w k : ℕ) (l : L) (i : ℕ) : Type 0 where
    pub steps : List (Step L)
    pub long : length steps ≡ i
    pub clear : Clear g steps
    pub one : proposals steps ≡ Propose w k l ∷ []
    pub ends : (m : L) × (holds (plays steps g) w k ≡ Some m)

  -- the lines 1 to j, if worker w holds them all
  abbrev pub book_to : Store L → ℕ → ℕ → Option (List L)
  book_to g w zero = Some []
  book_to g w (suc j) = joined (book_to g w j) (holds g w (suc j))

  -- how many roster entries worker w has not read
  abbrev pub unread : Store L → ℕ → ℕ
  unread g w = length g.roster.entries - (worker_of g w).mark

-- two workers that hold line k hold the same line there
abbrev pub Agreement : Type 0 → Type 0
Agreement L = (g : Store L) (h : History L) → Run L g h → (w u k : ℕ) (l m : L) → holds g w k ≡ Some l → holds g u k ≡ Some m → l ≡ m

-- each line held for k was proposed for k before
abbrev pub Origin : Type 0 → Type 0
Origin L = (g : Store L) (h : History L) → Run L g h → (w k : ℕ) (l : L) → holds g w k ≡ Some l → Proposed h.proposed k l

-- a line once held by a worker stays held by it, the same, whatever happens
abbrev pub Permanence : Type 0 → Type 0
Permanence L = (g : Store L) (h : History L) → Run L g h → (es : List (Event L)) (w k : ℕ) (l : L) → holds g w k ≡ Some l → holds (happen es g) w k ≡ Some l

-- workers that both hold lines 1 to j work out equal sheets, whatever a sheet is
abbrev pub EqualSheets : Type 0 → Type 0 → Type 0
EqualSheets L X =
    (g : Store L) (h : History L) → Run L g h → (sheet : List L → X) (w u j : ℕ) (ls ms : List L) → book_to g w j ≡ Some ls → book_to g u j ≡ Some ms → sheet ls ≡ sheet ms

-- From an open roster with an entry and a free place, each worker outside the seat can come to hold any line k by a way of u + v + 7 steps, where u counts the
-- roster entries that it has not read and v the lines accepted under the newest Seat entry, if the messages have v + 4 free places.
abbrev pub Progress : Type 0 → Type 0
Progress L =
    (g : Store L) (h : History L) → Run L g h → readable g.roster ≡ true → appendable g.roster ≡ true → 0 < length g.roster.entries → length g.roster.entries < g.roster.capacity
    → (e x : ℕ) → Newest g.roster.entries e x → (w k : ℕ) (l : L) → w < length g.workers → (w ≢ x) → 0 < k → k ≤ lines
    → length g.messages + accepted-under e h.accepted + 4 ≤ g.places → Way g w k l (unread g w + accepted-under e h.accepted + 7)

-- a roster with an entry has a newest Seat entry, so that there is a seat
abbrev pub SomeSeat : Type 0 → Type 0
SomeSeat L = (g : Store L) (h : History L) → Run L g h → 0 < length g.roster.entries → (e : ℕ) × (x : ℕ) × Newest g.roster.entries e x

-- a refused step changes nothing
abbrev pub RefusalKeeps : Type 0 → Type 0
RefusalKeeps L = (g : Store L) (s : Step L) (f : Refusal StepFault) → step_answer s g ≡ Err f → step_after s g ≡ g

-- a group made with other sizes refuses every step with 1, and holds nothing
abbrev pub UnmadeRefuses : Type 0 → Type 0
UnmadeRefuses L =
    (g : Store L) → made_in g ≡ false → ((s : Step L) → step_answer s g ≡ Err (record { fault = Unmade; worker = worker_in s })) × ((w k : ℕ) → holds g w k ≡ None)

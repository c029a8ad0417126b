-- A group and its roster as lists and numbers, and what each step answers and does. Assumes nothing.
--
-- Store               what the group and its roster hold: worker records, three tables of 64 cells a worker, the messages and the number
--                     of their places, and the roster
-- Same a b            the stores a and b agree in each part
-- cell_at, put_cell   the cell of line k of worker w, and a table with that cell changed; a number that is no line number changes nothing
-- cleared             a worker's cells without the lines that a set does not have
-- lines_in, reports   how many of a worker's cells have a line, and a Report of each, in rising line order
-- STEP_result         what a step answers: the questions in their order, the first no with its fault
-- STEP_done           the store after a step that is not refused
-- made_of             the store of a group that was made in lent tables: emptied where the sizes are right
-- step_after s g      the store after the step s, refused or not: a refused step changes nothing
-- step_answer s g     what is told to the caller
-- Each step gets the questions that concern it, in the order of their numbers.
use Rattle.std.specs.Prelude.{◌≡◌, ℕ, zero, suc, ◌+◌, ◌-◌, ◌*◌, Bool, true, false, cond, not, ◌&&◌, ◌||◌, List, [], ◌∷◌, ◌++◌, length, take, replicate, Some, None, Ok, Err, Option, Result, ◌==◌, bit_or, count_ones, is_some, nat_eq, nat_lt, slice_index_or, slice_set}
use Rattle.std.specs.Option.{option_eq}
use Rattle.roster.specs.declared.entry.Entry.{Entry}
use Rattle.roster.specs.declared.entry.Entry.TheVariants.{Lead as lead, Seat as seat, Carry as carry}
use Rattle.roster.specs.declared.fault.RosterFault.{RosterFault}
use Rattle.roster.specs.Answers.{append_answer, appended_to, read_answer}
use Rattle.roster.specs.Model.{RosterModel, RosterState}
use Rattle.protocol.specs.declared.worker.Worker.{Worker}
use Rattle.protocol.specs.declared.message.Message.{Message}
use Rattle.protocol.specs.declared.message.Message.TheVariants.{Prepare as prepare, Proposal as proposal, Promise as promise, Report as report, Learn as learn}
use Rattle.protocol.specs.declared.fault.StepFault.{StepFault}
use Rattle.protocol.specs.declared.fault.StepFault.TheVariants.{Unmade, NoWorker, NoLine, NoMessage, NotAddressed, NotReady, NotTaken, WrongSeat, WrongLine, Late, NoRoom, OfRoster}
use Rattle.protocol.specs.declared.step.Answer.{Answer}
use Rattle.protocol.specs.declared.step.Answer.TheVariants.{Done, Held}
use Rattle.protocol.specs.declared.step.Step.{Step}
use Rattle.protocol.specs.declared.step.Step.TheVariants.{Found, Read, Lead, Prepare, Propose, Carry, Reseat, Deliver, Lose}
use Rattle.protocol.specs.declared.fault.Refusal.{Refusal}
use Rattle.protocol.specs.Faults.{worker_in, told_of}
use Rattle.protocol.specs.Items.{item_at}
use Rattle.protocol.specs.Limits.{lines}
use Rattle.protocol.specs.Lines.{in_book, bit_of, marked, cell_of}
use Rattle.protocol.specs.Sizes.{sized_test}

pub record Store (L : Type 0) : Type 0 where
  pub workers : List Worker
  pub hand : List (Option L)
  pub accepted : List (Option L)
  pub learned : List (Option L)
  pub messages : List (Message L)
  pub places : ℕ
  pub roster : RosterModel (Entry L)

pub record Same {L : Type 0} (a b : Store L) : Type 0 where
  pub workers : a.workers ≡ b.workers
  pub hand : a.hand ≡ b.hand
  pub accepted : a.accepted ≡ b.accepted
  pub learned : a.learned ≡ b.learned
  pub messages : a.messages ≡ b.messages
  pub places : a.places ≡ b.places
  pub roster : a.roster ≡ b.roster

-- a worker that has done nothing
abbrev pub blank : Worker
blank =
    record {
      mark = 0;
      epoch = 0;
      seat = 0;
      claim = 0;
      taken = false;
      count = None;
      reported = 0;
      carried = 0;
      sits = 0;
      promise = 0;
    }

-- what follows an answer that was no refusal
abbrev pub after : {X Y : Type 0} → Result X StepFault → (X → Result Y StepFault) → Result Y StepFault
after (Ok x) next = next x
after (Err f) next = Err f

-- a question with the fault of its no
abbrev pub must : Bool → StepFault → Result Unit StepFault
must q f = cond q (Ok tt) (Err f)

-- a refused step changes nothing
abbrev pub settled : {X Y : Type 0} → Result X StepFault → Y → Y → Y
settled (Ok _) new old = new
settled (Err _) new old = old

-- a roster's answer as a step's, its fault unaltered
abbrev pub raised : {X : Type 0} → Result X RosterFault → Result X StepFault
raised (Ok x) = Ok x
raised (Err f) = Err (OfRoster f)

-- a made group's worker
abbrev pub worker_answer : Bool → List Worker → ℕ → Result Worker StepFault
worker_answer made ws w = cond made (cond (nat_lt w (length ws)) (Ok (slice_index_or ws w blank)) (Err NoWorker)) (Err Unmade)

-- the cell of line k of worker w
abbrev pub cell_at : {L : Type 0} → List (Option L) → ℕ → ℕ → Option L
cell_at cells w k = slice_index_or cells (cell_of w k) None

-- a list without its place m, which an item takes that was the last
abbrev pub lost_at : {X : Type 0} → Option X → ℕ → List X → List X
lost_at None m xs = xs
lost_at (Some x) m xs = take (length xs - 1) (slice_set xs m x)

-- a table with a line's cell of worker w changed, if there is such a line
abbrev pub put_cell : {L : Type 0} → ℕ → ℕ → Option L → List (Option L) → List (Option L)
put_cell w k o cells = cond (in_book k) (slice_set cells (cell_of w k) o) cells

-- the cells of worker w without its first n lines that carried does not mark
unfoldable pub cleared : {L : Type 0} → ℕ → ℕ → ℕ → List (Option L) → List (Option L)
cleared carried w zero cells = cells
cleared carried w (suc n) cells =
    cond (marked carried (n + 1)) (cleared carried w n cells) (slice_set (cleared carried w n cells) (lines * w + n) None)

-- 1 for a cell with a line
abbrev pub held : {L : Type 0} → Option L → ℕ
held None = 0
held (Some _) = 1

-- how many of worker w's first n cells have a line
unfoldable pub lines_in : {L : Type 0} → ℕ → ℕ → List (Option L) → ℕ
lines_in w zero cells = 0
lines_in w (suc n) cells = lines_in w n cells + held (slice_index_or cells (lines * w + n) None)

-- the report of a cell
abbrev pub report_of : {L : Type 0} → ℕ → ℕ → ℕ → ℕ → ℕ → Option L → List (Message L)
report_of w to e c k None = []
report_of w to e c k (Some v) = report w to e c k v ∷ []

-- the reports of worker w's first n cells, in rising line order
unfoldable pub reports : {L : Type 0} → ℕ → ℕ → ℕ → ℕ → ℕ → List (Option L) → List (Message L)
reports w to e c zero cells = []
reports w to e c (suc n) cells = reports w to e c n cells ++ report_of w to e c (n + 1) (slice_index_or cells (lines * w + n) None)

-- every line in hand among the first n is marked
unfoldable pub all_marked : {L : Type 0} → ℕ → ℕ → ℕ → List (Option L) → Bool
all_marked carried w zero cells = true
all_marked carried w (suc n) cells = cond (is_some (slice_index_or cells (lines * w + n) None)) (marked carried (n + 1)) true && all_marked carried w n cells

-- a worker that has appended its Lead entry: that place is read, and is its claim
abbrev pub lead_worker : Worker → Worker
lead_worker x =
    record {
      mark = x.mark + 1;
      epoch = x.epoch;
      seat = x.seat;
      claim = x.mark + 1;
      taken = false;
      count = None;
      reported = 0;
      carried = x.carried;
      sits = x.sits;
      promise = x.promise;
    }

-- it has read a Seat entry (6), and is not the seat (8)
abbrev pub may_lead : Worker → ℕ → Result Unit StepFault
may_lead x w = cond (nat_lt 0 x.epoch) (cond (w == x.seat) (Err WrongSeat) (Ok tt)) (Err NotReady)

-- it has a claim (6), and there is room for a message (11)
abbrev pub may_prepare : Worker → Bool → Result Unit StepFault
may_prepare x room = cond (nat_lt 0 x.claim) (cond room (Ok tt) (Err NoRoom)) (Err NotReady)

-- a line number (3), a claim (6) that is taken up (7), and room for a message (11)
abbrev pub may_propose : Worker → ℕ → Bool → Result Unit StepFault
may_propose x k room =
    cond (in_book k) (cond (nat_lt 0 x.claim) (cond x.taken (cond room (Ok tt) (Err NoRoom)) (Err NotTaken)) (Err NotReady)) (Err NoLine)

-- a line number (3), a claim (6) that is taken up (7); that the line is in hand and not marked (9) is `unmarked`
abbrev pub may_carry : Worker → ℕ → Result Unit StepFault
may_carry x k = cond (in_book k) (cond (nat_lt 0 x.claim) (cond x.taken (Ok tt) (Err NotTaken)) (Err NotReady)) (Err NoLine)

-- a worker that has appended a Carry entry of line k: one entry more is read, and the line is marked
abbrev pub carry_worker : ℕ → Worker → Worker
carry_worker k x =
    record {
      mark = x.mark + 1;
      epoch = x.epoch;
      seat = x.seat;
      claim = x.claim;
      taken = x.taken;
      count = x.count;
      reported = x.reported;
      carried = bit_or x.carried (bit_of k);
      sits = x.sits;
      promise = x.promise;
    }

-- the new seat is one of n workers (2), a claim (6) that is taken up (7), another seat than the worker and its seat (8), every line in hand marked (9)
abbrev pub may_reseat : Worker → ℕ → ℕ → ℕ → Bool → Result Unit StepFault
may_reseat x w b n marks =
    cond (nat_lt b n) (cond (nat_lt 0 x.claim) (cond x.taken (cond (not (b == w) && not (b == x.seat)) (cond marks (Ok tt) (Err WrongLine)) (Err WrongSeat)) (Err NotTaken)) (Err NotReady)) (Err NoWorker)

-- a Prepare or Proposal under (e, c) is timely for an acceptor
abbrev pub timely_at : Worker → ℕ → ℕ → Bool
timely_at x e c = not (nat_lt e x.sits || (e == x.sits && nat_lt c x.promise))

-- a Promise or Report under (e, c) is timely for a leader
abbrev pub timely_to : Worker → ℕ → ℕ → Bool
timely_to x e c = c == x.claim && (e == x.epoch && not x.taken)

-- an acceptor to which a Prepare or Proposal under (e, c) has come
abbrev pub seated_worker : Worker → ℕ → ℕ → Worker
seated_worker x e c =
    record {
      mark = x.mark;
      epoch = x.epoch;
      seat = x.seat;
      claim = x.claim;
      taken = x.taken;
      count = x.count;
      reported = x.reported;
      carried = x.carried;
      sits = e;
      promise = c;
    }

-- a leader to which a promised count has come: its claim is taken up if as many lines are in the set
abbrev pub counted_worker : Worker → ℕ → Worker
counted_worker x n =
    record {
      mark = x.mark;
      epoch = x.epoch;
      seat = x.seat;
      claim = x.claim;
      taken = (n == count_ones x.reported);
      count = Some n;
      reported = x.reported;
      carried = x.carried;
      sits = x.sits;
      promise = x.promise;
    }

-- a leader to which a Report of line k has come: its claim is taken up if a count has come and as many lines are in the set
abbrev pub reported_worker : Worker → ℕ → Worker
reported_worker x k =
    record {
      mark = x.mark;
      epoch = x.epoch;
      seat = x.seat;
      claim = x.claim;
      taken = option_eq nat_eq x.count (Some (count_ones (bit_or x.reported (bit_of k))));
      count = x.count;
      reported = bit_or x.reported (bit_of k);
      carried = x.carried;
      sits = x.sits;
      promise = x.promise;
    }

-- a step whose answer is no more than that it was done
abbrev pub plainly : Result Unit StepFault → Result Answer StepFault
plainly (Ok _) = Ok Done
plainly (Err f) = Err f

module _ {L : Type 0} where
  -- question 1: the sizes are right
  abbrev pub made_in : Store L → Bool
  made_in g = sized_test (length g.workers) (length g.hand) (length g.accepted) (length g.learned) g.places

  -- a group in lent tables, its messages of so many places, beside a roster: where the sizes are right, empty cells, zeros and no message; else the
  -- tables as they are, and no message
  abbrev pub made_of : List Worker → List (Option L) → List (Option L) → List (Option L) → ℕ → RosterModel (Entry L) → Store L
  made_of ws hs qs ls room m =
      cond (sized_test (length ws) (length hs) (length qs) (length ls) room)
      (record { workers = replicate (length ws) blank; hand = replicate (length hs) None; accepted = replicate (length qs) None; learned = replicate (length ls) None; messages = []; places = room; roster = m })
      (record { workers = ws; hand = hs; accepted = qs; learned = ls; messages = []; places = room; roster = m })

  -- the record of worker w
  abbrev pub worker_of : Store L → ℕ → Worker
  worker_of g w = slice_index_or g.workers w blank

  -- questions 1 and 2: the worker's record
  abbrev pub asked : Store L → ℕ → Result Worker StepFault
  asked g w = worker_answer (made_in g) g.workers w

  -- there is room for n messages and one more
  abbrev pub has_room : Store L → ℕ → Bool
  has_room g n = nat_lt (length g.messages + n) g.places

  -- there is room for a message
  abbrev pub room_for : Store L → Bool
  room_for g = nat_lt (length g.messages) g.places

  -- the roster's questions, 20 to 22
  abbrev pub appends : Store L → ℕ → Result Unit StepFault
  appends g p = raised (append_answer g.roster p)

  -- a store with some part changed
  abbrev pub with_worker : ℕ → Worker → Store L → Store L
  with_worker w x g = record { workers = slice_set g.workers w x; hand = g.hand; accepted = g.accepted; learned = g.learned; messages = g.messages; places = g.places; roster = g.roster }

  abbrev pub with_hand : List (Option L) → Store L → Store L
  with_hand cells g = record { workers = g.workers; hand = cells; accepted = g.accepted; learned = g.learned; messages = g.messages; places = g.places; roster = g.roster }

  abbrev pub with_accepted : List (Option L) → Store L → Store L
  with_accepted cells g = record { workers = g.workers; hand = g.hand; accepted = cells; learned = g.learned; messages = g.messages; places = g.places; roster = g.roster }

  abbrev pub with_learned : List (Option L) → Store L → Store L
  with_learned cells g = record { workers = g.workers; hand = g.hand; accepted = g.accepted; learned = cells; messages = g.messages; places = g.places; roster = g.roster }

  abbrev pub with_messages : List (Message L) → Store L → Store L
  with_messages ms g = record { workers = g.workers; hand = g.hand; accepted = g.accepted; learned = g.learned; messages = ms; places = g.places; roster = g.roster }

  -- an entry more in the roster
  abbrev pub entering : Entry L → Store L → Store L
  entering x g = record { workers = g.workers; hand = g.hand; accepted = g.accepted; learned = g.learned; messages = g.messages; places = g.places; roster = appended_to (Ok tt) g.roster x }

  -- its owner opens or shuts the roster
  abbrev pub owned : RosterState → Store L → Store L
  owned t g = record { workers = g.workers; hand = g.hand; accepted = g.accepted; learned = g.learned; messages = g.messages; places = g.places; roster = record { entries = g.roster.entries; capacity = g.roster.capacity; state = t } }

  -- a message more
  abbrev pub sending : Message L → Store L → Store L
  sending m g = with_messages (g.messages ++ m ∷ []) g

  -- Found
  abbrev pub found_result : ℕ → Store L → Result Unit StepFault
  found_result a g = after (asked g a) (λ _. appends g 1)

  abbrev pub found_done : ℕ → Store L → Store L
  found_done a g = entering (seat a) g

  -- Read
  abbrev pub read_worker : Entry L → Worker → Worker
  read_worker (lead v) x =
      record {
        mark = x.mark + 1;
        epoch = x.epoch;
        seat = x.seat;
        claim = 0;
        taken = false;
        count = x.count;
        reported = x.reported;
        carried = x.carried;
        sits = x.sits;
        promise = x.promise;
      }
  read_worker (seat a) x =
      record {
        mark = x.mark + 1;
        epoch = x.mark + 1;
        seat = a;
        claim = x.claim;
        taken = x.taken;
        count = x.count;
        reported = x.reported;
        carried = x.carried;
        sits = x.sits;
        promise = x.promise;
      }
  read_worker (carry k l) x =
      record {
        mark = x.mark + 1;
        epoch = x.epoch;
        seat = x.seat;
        claim = x.claim;
        taken = x.taken;
        count = x.count;
        reported = x.reported;
        carried = bit_or x.carried (bit_of k);
        sits = x.sits;
        promise = x.promise;
      }

  abbrev pub carried_in : Entry L → ℕ → List (Option L) → List (Option L)
  carried_in (lead _) w cells = cells
  carried_in (seat _) w cells = cells
  carried_in (carry k l) w cells = put_cell w k (Some l) cells

  abbrev pub next_entry : ℕ → Store L → Result (Entry L) RosterFault
  next_entry w g = read_answer g.roster ((worker_of g w).mark + 1)

  abbrev pub read_result : ℕ → Store L → Result Unit StepFault
  read_result w g = after (asked g w) (λ x. after (raised (read_answer g.roster (x.mark + 1))) (λ _. Ok tt))

  abbrev pub read_by : Result (Entry L) RosterFault → ℕ → Store L → Store L
  read_by (Ok x) w g = with_worker w (read_worker x (worker_of g w)) (with_hand (carried_in x w g.hand) g)
  read_by (Err _) w g = g

  abbrev pub read_done : ℕ → Store L → Store L
  read_done w g = read_by (next_entry w g) w g

  -- Lead
  abbrev pub lead_result : ℕ → Store L → Result Unit StepFault
  lead_result w g = after (asked g w) (λ x. after (may_lead x w) (λ _. appends g (x.mark + 1)))

  abbrev pub lead_done : ℕ → Store L → Store L
  lead_done w g = with_worker w (lead_worker (worker_of g w)) (with_hand (cleared (worker_of g w).carried w lines g.hand) (entering (lead w) g))

  -- Prepare
  abbrev pub prepare_result : ℕ → Store L → Result Unit StepFault
  prepare_result w g = after (asked g w) (λ x. after (may_prepare x (room_for g)) (λ _. Ok tt))

  abbrev pub prepare_done : ℕ → Store L → Store L
  prepare_done w g = sending (prepare w (worker_of g w).seat (worker_of g w).epoch (worker_of g w).claim) g

  -- Propose
  abbrev pub sent_as : Option L → Answer
  sent_as None = Done
  sent_as (Some _) = Held

  abbrev pub line_sent : Option L → L → L
  line_sent None given = given
  line_sent (Some line) given = line

  abbrev pub propose_result : ℕ → ℕ → Store L → Result Answer StepFault
  propose_result w k g = after (asked g w) (λ x. after (may_propose x k (room_for g)) (λ _. Ok (sent_as (cell_at g.hand w k))))

  abbrev pub propose_done : ℕ → ℕ → L → Store L → Store L
  propose_done w k given g =
      with_hand (slice_set g.hand (cell_of w k) (Some (line_sent (cell_at g.hand w k) given)))
      (sending (proposal w (worker_of g w).seat (worker_of g w).epoch (worker_of g w).claim k (line_sent (cell_at g.hand w k) given)) g)

  -- Carry
  -- the line of a cell that is not marked
  abbrev pub unmarked : Worker → ℕ → Option L → Result L StepFault
  unmarked x k None = Err WrongLine
  unmarked x k (Some l) = cond (marked x.carried k) (Err WrongLine) (Ok l)

  abbrev pub carry_result : ℕ → ℕ → Store L → Result Unit StepFault
  carry_result w k g = after (asked g w) (λ x. after (may_carry x k) (λ _. after (unmarked x k (cell_at g.hand w k)) (λ _. appends g (x.mark + 1))))

  abbrev pub carry_by : Option L → ℕ → ℕ → Store L → Store L
  carry_by None w k g = g
  carry_by (Some l) w k g = with_worker w (carry_worker k (worker_of g w)) (entering (carry k l) g)

  abbrev pub carry_done : ℕ → ℕ → Store L → Store L
  carry_done w k g = carry_by (cell_at g.hand w k) w k g

  -- Reseat
  abbrev pub reseat_result : ℕ → ℕ → Store L → Result Unit StepFault
  reseat_result w b g = after (asked g w) (λ x. after (may_reseat x w b (length g.workers) (all_marked x.carried w lines g.hand)) (λ _. appends g (x.mark + 1)))

  abbrev pub reseat_done : ℕ → ℕ → Store L → Store L
  reseat_done w b g = with_worker w (read_worker (seat b) (worker_of g w)) (entering (seat b) g)

  -- Deliver
  -- the accepted cells of an acceptor that sits under a later seat, or not
  abbrev pub seated_cells : Worker → ℕ → ℕ → List (Option L) → List (Option L)
  seated_cells x e w cells = cond (nat_lt x.sits e) (cleared 0 w lines cells) cells

  abbrev pub fills : Option L → L → Option L
  fills None l = Some l
  fills (Some m) l = Some m

  abbrev pub may_deliver : Option (Message L) → Worker → ℕ → Store L → Result Unit StepFault
  may_deliver None x w g = Err NoMessage
  may_deliver (Some (prepare from to e c)) x w g =
      cond (to == w) (cond (timely_at x e c) (cond (has_room g (lines_in w lines (seated_cells x e w g.accepted))) (Ok tt) (Err NoRoom)) (Err Late)) (Err NotAddressed)
  may_deliver (Some (proposal from to e c k l)) x w g =
      cond (to == w) (cond (timely_at x e c) (cond (room_for g) (Ok tt) (Err NoRoom)) (Err Late)) (Err NotAddressed)
  may_deliver (Some (promise from to e c n)) x w g = cond (to == w) (cond (timely_to x e c) (Ok tt) (Err Late)) (Err NotAddressed)
  may_deliver (Some (report from to e c k l)) x w g = cond (to == w) (cond (timely_to x e c) (Ok tt) (Err Late)) (Err NotAddressed)
  may_deliver (Some (learn from k l)) x w g = Ok tt

  abbrev pub deliver_result : ℕ → ℕ → Store L → Result Unit StepFault
  deliver_result m w g = after (asked g w) (λ x. after (must (nat_lt m (length g.messages)) NoMessage) (λ _. may_deliver (item_at g.messages m) x w g))

  abbrev pub deliver_by : Option (Message L) → Worker → ℕ → Store L → Store L
  deliver_by None x w g = g
  deliver_by (Some (prepare from to e c)) x w g =
      with_worker w (seated_worker x e c) (with_accepted (seated_cells x e w g.accepted)
      (with_messages (g.messages ++ promise w from e c (lines_in w lines (seated_cells x e w g.accepted)) ∷ reports w from e c lines (seated_cells x e w g.accepted)) g))
  deliver_by (Some (proposal from to e c k l)) x w g =
      with_worker w (seated_worker x e c) (with_accepted (put_cell w k (Some l) (seated_cells x e w g.accepted)) (sending (learn w k l) g))
  deliver_by (Some (promise from to e c n)) x w g = with_worker w (counted_worker x n) g
  deliver_by (Some (report from to e c k l)) x w g = with_worker w (reported_worker x k) (with_hand (put_cell w k (Some l) g.hand) g)
  deliver_by (Some (learn from k l)) x w g = with_learned (put_cell w k (fills (cell_at g.learned w k) l) g.learned) g

  abbrev pub deliver_done : ℕ → ℕ → Store L → Store L
  deliver_done m w g = deliver_by (item_at g.messages m) (worker_of g w) w g

  -- Lose
  abbrev pub lose_result : ℕ → Store L → Result Unit StepFault
  lose_result m g = after (must (made_in g) Unmade) (λ _. must (nat_lt m (length g.messages)) NoMessage)

  abbrev pub lose_by : Option (Message L) → ℕ → List (Message L) → List (Message L)
  lose_by o m ms = lost_at o m ms

  abbrev pub lose_done : ℕ → Store L → Store L
  lose_done m g = with_messages (lose_by (item_at g.messages (length g.messages - 1)) m g.messages) g

  -- any step
  abbrev pub step_result : Step L → Store L → Result Answer StepFault
  step_result (Found a) g = plainly (found_result a g)
  step_result (Read w) g = plainly (read_result w g)
  step_result (Lead w) g = plainly (lead_result w g)
  step_result (Prepare w) g = plainly (prepare_result w g)
  step_result (Propose w k l) g = propose_result w k g
  step_result (Carry w k) g = plainly (carry_result w k g)
  step_result (Reseat w b) g = plainly (reseat_result w b g)
  step_result (Deliver m w) g = plainly (deliver_result m w g)
  step_result (Lose m) g = plainly (lose_result m g)

  abbrev pub step_done : Step L → Store L → Store L
  step_done (Found a) g = found_done a g
  step_done (Read w) g = read_done w g
  step_done (Lead w) g = lead_done w g
  step_done (Prepare w) g = prepare_done w g
  step_done (Propose w k l) g = propose_done w k l g
  step_done (Carry w k) g = carry_done w k g
  step_done (Reseat w b) g = reseat_done w b g
  step_done (Deliver m w) g = deliver_done m w g
  step_done (Lose m) g = lose_done m g

  abbrev pub step_after : Step L → Store L → Store L
  step_after s g = settled (step_result s g) (step_done s g) g

  -- what is told to the caller: the answer, or the fault with the worker as given
  abbrev pub step_answer : Step L → Store L → Result Answer (Refusal StepFault)
  step_answer s g = told_of (worker_in s) (step_result s g)

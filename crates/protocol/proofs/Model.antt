-- The group as functions from worker and line numbers, and its nine steps on that: the model that the proofs are about.
use Rattle.std.proofs.Common.{◌≡◌, ℕ, zero, suc, ◌+◌, ◌-◌, ◌<◌, ◌≤◌, Bool, true, false, cond, not, ◌&&◌, ◌||◌, eqb, ltb, leb, List, [], ◌∷◌, ◌++◌, length, take, set, Some, None, Option, is_some}
use Rattle.roster.specs.declared.entry.Entry.{Entry}
use Rattle.protocol.specs.Words.{tally, Proposed, accepted-under, proposals, Newest}
use Rattle.roster.specs.declared.entry.Entry.TheVariants.{Lead as lead, Seat as seat, Carry as carry}
use Rattle.protocol.specs.declared.step.Step.{Step}
use Rattle.protocol.specs.declared.step.Step.TheVariants.{Found, Read, Lead, Prepare, Propose, Carry, Reseat, Deliver, Lose}
use Rattle.protocol.proofs.Msg.{Msg}
use Rattle.protocol.proofs.Msg.Msg.{prepare, proposal, promise, report, learn}
use Rattle.protocol.proofs.Put.{put}
use Rattle.protocol.proofs.Roles.{Seated, Leader, read_lead, read_seat, read_carry, leads, carries, takes, settle, counts, reports, sits, accepts}

abbrev pub nth : {X : Type 0} → List X → ℕ → Option X
nth [] i = None
nth (x ∷ xs) zero = Some x
nth (x ∷ xs) (suc i) = nth xs i

pub record State (L : Type 0) : Type 0 where
  pub n : ℕ
  pub room : ℕ
  pub leader : ℕ → Leader L
  pub seated : ℕ → Seated L
  pub held : ℕ → ℕ → Option L
  pub msgs : List (Msg L)
  pub roster : List (Entry L)
  pub cap : ℕ
  pub opened : Bool

pub data Said : Type 0 where
  Ok : Said
  Held : Said
  No : ℕ → Said

-- questions, each with the number of its refusal
abbrev pub Asks : Type 0
Asks = List (Bool × ℕ)

-- the first no gives its number
abbrev pub refusal : Asks → Option ℕ
refusal [] = None
refusal (q ∷ qs) = cond q.0 (refusal qs) (Some q.1)

abbrev pub line_ok : ℕ → Bool
line_ok k = ltb 0 k && leb k 64

abbrev pub either_way : {X : Type 0} → Option ℕ → (ℕ → X) → X → X
either_way None f x = x
either_way (Some i) f x = f i

module _ {L : Type 0} where
  abbrev pub appending : State L → ℕ → Asks
  appending g p = (g.opened, 20) ∷ (eqb p (suc (length g.roster)), 21) ∷ (ltb (length g.roster) g.cap, 22) ∷ []

  -- every line in hand, 1 to n, is marked
  abbrev pub leader_all_marked : Leader L → ℕ → Bool
  leader_all_marked v zero = true
  leader_all_marked v (suc n) = cond (is_some (v.hand (suc n))) (v.carried (suc n)) true && leader_all_marked v n

  abbrev pub leader_timely_at : Seated L → ℕ → ℕ → Bool
  leader_timely_at b e c = not (ltb e b.s || (eqb e b.s && ltb c b.p))

  abbrev pub leader_timely_to : Leader L → ℕ → ℕ → Bool
  leader_timely_to v e c = eqb c v.c && (eqb e v.e && not v.taken)

  -- how many cells, 1 to n, have a line
  abbrev pub filled : (ℕ → Option L) → ℕ → ℕ
  filled cells n = tally (λ k. is_some (cells k)) n

  -- a Report for each line, in rising order
  abbrev pub report_line : ℕ → ℕ → ℕ → ℕ → Option L → List (Msg L)
  report_line to e c k None = []
  report_line to e c k (Some l) = report to e c k l ∷ []

  abbrev pub report_all : ℕ → ℕ → ℕ → (ℕ → Option L) → ℕ → List (Msg L)
  report_all to e c cells zero = []
  report_all to e c cells (suc n) = report_all to e c cells n ++ report_line to e c (suc n) (cells (suc n))

  abbrev pub delivering : State L → ℕ → Option (Msg L) → Asks
  delivering g w None = (false, 4) ∷ []
  delivering g w (Some (prepare to from e c)) = (eqb to w, 5) ∷ (leader_timely_at (g.seated w) e c, 10) ∷ (ltb (length g.msgs + filled (sits e c (g.seated w)).cells 64) g.room, 11) ∷ []
  delivering g w (Some (proposal to e c k l)) = (eqb to w, 5) ∷ (leader_timely_at (g.seated w) e c, 10) ∷ (ltb (length g.msgs) g.room, 11) ∷ []
  delivering g w (Some (promise to e c n)) = (eqb to w, 5) ∷ (leader_timely_to (g.leader w) e c, 10) ∷ []
  delivering g w (Some (report to e c k l)) = (eqb to w, 5) ∷ (leader_timely_to (g.leader w) e c, 10) ∷ []
  delivering g w (Some (learn k l)) = []

  abbrev pub asks : Step L → State L → Asks
  asks (Found a) g = (ltb a g.n, 2) ∷ appending g 1
  asks (Read w) g = (ltb w g.n, 2) ∷ (g.opened, 20) ∷ (ltb (g.leader w).r (length g.roster), 23) ∷ []
  asks (Lead w) g = (ltb w g.n, 2) ∷ (ltb 0 (g.leader w).e, 6) ∷ (not (eqb w (g.leader w).a), 8) ∷ appending g (suc (g.leader w).r)
  asks (Prepare w) g = (ltb w g.n, 2) ∷ (ltb 0 (g.leader w).c, 6) ∷ (ltb (length g.msgs) g.room, 11) ∷ []
  asks (Propose w k l) g = (ltb w g.n, 2) ∷ (line_ok k, 3) ∷ (ltb 0 (g.leader w).c, 6) ∷ ((g.leader w).taken, 7) ∷ (ltb (length g.msgs) g.room, 11) ∷ []
  asks (Carry w k) g = (ltb w g.n, 2) ∷ (line_ok k, 3) ∷ (ltb 0 (g.leader w).c, 6) ∷ ((g.leader w).taken, 7) ∷ (is_some ((g.leader w).hand k) && not ((g.leader w).carried k), 9) ∷ appending g (suc (g.leader w).r)
  asks (Reseat w b) g = (ltb w g.n && ltb b g.n, 2) ∷ (ltb 0 (g.leader w).c, 6) ∷ ((g.leader w).taken, 7) ∷ (not (eqb b w) && not (eqb b (g.leader w).a), 8) ∷ (leader_all_marked (g.leader w) 64, 9) ∷ appending g (suc (g.leader w).r)
  asks (Deliver m w) g = (ltb w g.n, 2) ∷ (ltb m (length g.msgs), 4) ∷ delivering g w (nth g.msgs m)
  asks (Lose m) g = (ltb m (length g.msgs), 4) ∷ []

  -- a group with some part changed
  abbrev pub with_leader : ℕ → Leader L → State L → State L
  with_leader w v g = record { n = g.n; room = g.room; leader = put g.leader w v; seated = g.seated; held = g.held; msgs = g.msgs; roster = g.roster; cap = g.cap; opened = g.opened }

  abbrev pub with_seated : ℕ → Seated L → State L → State L
  with_seated w b g = record { n = g.n; room = g.room; leader = g.leader; seated = put g.seated w b; held = g.held; msgs = g.msgs; roster = g.roster; cap = g.cap; opened = g.opened }

  abbrev pub with_held : (ℕ → ℕ → Option L) → State L → State L
  with_held h g = record { n = g.n; room = g.room; leader = g.leader; seated = g.seated; held = h; msgs = g.msgs; roster = g.roster; cap = g.cap; opened = g.opened }

  abbrev pub with_msgs : List (Msg L) → State L → State L
  with_msgs ms g = record { n = g.n; room = g.room; leader = g.leader; seated = g.seated; held = g.held; msgs = ms; roster = g.roster; cap = g.cap; opened = g.opened }

  abbrev pub append : Entry L → State L → State L
  append x g = record { n = g.n; room = g.room; leader = g.leader; seated = g.seated; held = g.held; msgs = g.msgs; roster = g.roster ++ (x ∷ []); cap = g.cap; opened = g.opened }

  abbrev pub with_opened : Bool → State L → State L
  with_opened b g = record { n = g.n; room = g.room; leader = g.leader; seated = g.seated; held = g.held; msgs = g.msgs; roster = g.roster; cap = g.cap; opened = b }

  abbrev pub send : List (Msg L) → State L → State L
  send ms g = with_msgs (g.msgs ++ ms) g

  abbrev pub reads : Option (Entry L) → Leader L → Leader L
  reads None v = v
  reads (Some (lead u)) v = read_lead v
  reads (Some (seat x)) v = read_seat x v
  reads (Some (carry k l)) v = read_carry k l v

  abbrev pub proposes : ℕ → ℕ → L → Option L → State L → State L
  proposes w k l (Some m) g = let v = g.leader w in send (proposal v.a v.e v.c k m ∷ []) g
  proposes w k l None g = let v = g.leader w in send (proposal v.a v.e v.c k l ∷ []) (with_leader w (takes k l v) g)

  abbrev pub carrying : ℕ → ℕ → Option L → State L → State L
  carrying w k None g = g
  carrying w k (Some l) g = with_leader w (carries k (g.leader w)) (append (carry k l) g)

  abbrev pub fills : Option L → L → Option L
  fills None l = Some l
  fills (Some m) l = Some m

  abbrev pub delivers : ℕ → Option (Msg L) → State L → State L
  delivers w None g = g
  delivers w (Some (prepare to from e c)) g = let b = sits e c (g.seated w) in send (promise from e c (filled b.cells 64) ∷ report_all from e c b.cells 64) (with_seated w b g)
  delivers w (Some (proposal to e c k l)) g = send (learn k l ∷ []) (with_seated w (accepts k l (sits e c (g.seated w))) g)
  delivers w (Some (promise to e c n)) g = with_leader w (settle (counts n (g.leader w))) g
  delivers w (Some (report to e c k l)) g = with_leader w (settle (reports k l (g.leader w))) g
  delivers w (Some (learn k l)) g = with_held (put g.held w (put (g.held w) k (fills (g.held w k) l))) g

  -- the last message takes number m, and there is one fewer
  abbrev pub lose_at : ℕ → List (Msg L) → Option (Msg L) → List (Msg L)
  lose_at m ms None = ms
  lose_at m ms (Some x) = take (length ms - 1) (set ms m x)

  abbrev pub does : Step L → State L → State L
  does (Found a) g = append (seat a) g
  does (Read w) g = with_leader w (reads (nth g.roster (g.leader w).r) (g.leader w)) g
  does (Lead w) g = with_leader w (leads (g.leader w)) (append (lead w) g)
  does (Prepare w) g = let v = g.leader w in send (prepare v.a w v.e v.c ∷ []) g
  does (Propose w k l) g = proposes w k l ((g.leader w).hand k) g
  does (Carry w k) g = carrying w k ((g.leader w).hand k) g
  does (Reseat w b) g = with_leader w (read_seat b (g.leader w)) (append (seat b) g)
  does (Deliver m w) g = delivers w (nth g.msgs m) g
  does (Lose m) g = with_msgs (lose_at m g.msgs (nth g.msgs (length g.msgs - 1))) g

  abbrev pub answers : Step L → State L → Said
  answers (Propose w k l) g = cond (is_some ((g.leader w).hand k)) Held Ok
  answers (Found a) g = Ok
  answers (Read w) g = Ok
  answers (Lead w) g = Ok
  answers (Prepare w) g = Ok
  answers (Carry w k) g = Ok
  answers (Reseat w b) g = Ok
  answers (Deliver m w) g = Ok
  answers (Lose m) g = Ok

  -- a step, refused or not
  abbrev pub answer : Step L → State L → Said
  answer s g = either_way (refusal (asks s g)) No (answers s g)

  abbrev pub after : Step L → State L → State L
  after s g = either_way (refusal (asks s g)) (λ i. g) (does s g)

  -- what has been proposed: a Propose that answered ok
  abbrev pub note : Step L → Said → List (ℕ × L) → List (ℕ × L)
  note (Propose w k l) Ok ps = (k, l) ∷ ps
  note (Propose w k l) Held ps = ps
  note (Propose w k l) (No i) ps = ps
  note (Found a) an ps = ps
  note (Read w) an ps = ps
  note (Lead w) an ps = ps
  note (Prepare w) an ps = ps
  note (Carry w k) an ps = ps
  note (Reseat w b) an ps = ps
  note (Deliver m w) an ps = ps
  note (Lose m) an ps = ps

  -- what has been accepted, and under which seat: a Proposal that was delivered and not refused
  abbrev pub accepted_by : Option (Msg L) → List (ℕ × ℕ) → List (ℕ × ℕ)
  accepted_by None hs = hs
  accepted_by (Some (prepare to from e c)) hs = hs
  accepted_by (Some (proposal to e c k l)) hs = (e, k) ∷ hs
  accepted_by (Some (promise to e c n)) hs = hs
  accepted_by (Some (report to e c k l)) hs = hs
  accepted_by (Some (learn k l)) hs = hs

  abbrev pub mark : Step L → State L → Said → List (ℕ × ℕ) → List (ℕ × ℕ)
  mark (Deliver m w) g Ok hs = accepted_by (nth g.msgs m) hs
  mark (Deliver m w) g Held hs = hs
  mark (Deliver m w) g (No i) hs = hs
  mark (Propose w k l) g an hs = hs
  mark (Found a) g an hs = hs
  mark (Read w) g an hs = hs
  mark (Lead w) g an hs = hs
  mark (Prepare w) g an hs = hs
  mark (Carry w k) g an hs = hs
  mark (Reseat w b) g an hs = hs
  mark (Lose m) g an hs = hs

  abbrev pub made : ℕ → ℕ → ℕ → Bool → State L
  made n room cap opened = record {
    n = n;
    room = room;
    leader = λ w. record { r = 0; e = 0; a = 0; c = 0; taken = false; count = None; reported = λ k. false; hand = λ k. None; carried = λ k. false };
    seated = λ w. record { s = 0; p = 0; cells = λ k. None };
    held = λ w k. None;
    msgs = [];
    roster = [];
    cap = cap;
    opened = opened;
  }

-- all runs: steps in any order and number, refused or not, with the roster opened or shut in between; ps is what has been proposed, hs what has been accepted
pub data Run (L : Type 0) : State L → List (ℕ × L) → List (ℕ × ℕ) → Type 0 where
  start : (n room cap : ℕ) (opened : Bool) → Run L (made n room cap opened) [] []
  next : {g : State L} {ps : List (ℕ × L)} {hs : List (ℕ × ℕ)} → Run L g ps hs → (s : Step L) → Run L (after s g) (note s (answer s g) ps) (mark s g (answer s g) hs)
  owner : {g : State L} {ps : List (ℕ × L)} {hs : List (ℕ × ℕ)} → Run L g ps hs → (b : Bool) → Run L (with_opened b g) ps hs

pub record Agreed {L : Type 0} (g : State L) (ps : List (ℕ × L)) : Type 0 where
  pub same : (w u k : ℕ) (l m : L) → g.held w k ≡ Some l → g.held u k ≡ Some m → l ≡ m
  pub proposed : (w k : ℕ) (l : L) → g.held w k ≡ Some l → Proposed ps k l
  pub stays : (s : Step L) (w k : ℕ) (l : L) → g.held w k ≡ Some l → (after s g).held w k ≡ Some l

abbrev pub Agreement : Type 0 → Type 0
Agreement L = (g : State L) (ps : List (ℕ × L)) (hs : List (ℕ × ℕ)) → Run L g ps hs → Agreed g ps

module _ {L : Type 0} where
  -- none of these steps is refused
  abbrev pub Clear : State L → List (Step L) → Type 0
  Clear g [] = Unit {0}
  Clear g (s ∷ ss) = (refusal (asks s g) ≡ None) × Clear (after s g) ss

  abbrev pub finish : State L → List (Step L) → State L
  finish g [] = g
  finish g (s ∷ ss) = finish (after s g) ss

  -- a way of i steps to line k, with one Propose
  pub record Way (g : State L) (w k : ℕ) (l : L) (i : ℕ) : Type 0 where
    pub steps : List (Step L)
    pub long : length steps ≡ i
    pub clear : Clear g steps
    pub one : proposals steps ≡ Propose w k l ∷ []
    pub holds : (m : L) × ((finish g steps).held w k ≡ Some m)

abbrev pub SomeSeat : Type 0 → Type 0
SomeSeat L = (g : State L) (ps : List (ℕ × L)) (hs : List (ℕ × ℕ)) → Run L g ps hs → 0 < length g.roster → (e : ℕ) × (x : ℕ) × Newest g.roster e x

abbrev pub Progress : Type 0 → Type 0
Progress L = (g : State L) (ps : List (ℕ × L)) (hs : List (ℕ × ℕ)) → Run L g ps hs → g.opened ≡ true → 0 < length g.roster → length g.roster < g.cap →
    (e x : ℕ) → Newest g.roster e x → (w k : ℕ) (l : L) → w < g.n → (w ≡ x → ⊥) → 0 < k → k ≤ 64 →
    length g.msgs + accepted-under e hs + 4 ≤ g.room → Way g w k l ((length g.roster - (g.leader w).r) + accepted-under e hs + 7)

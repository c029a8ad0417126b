-- The invariant, over the roster's list R, the Proposals P ever sent, the lines A ever accepted, and how far each seat has promised, B.
use Rattle.std.proofs.Common.{◌≡◌, ℕ, suc, ◌<◌, ◌≤◌, Bool, true, false, ◌⊎◌, List, length, Some, None}
use Rattle.roster.specs.declared.entry.Entry.{Entry}
use Rattle.protocol.specs.Words.{At, tally}
use Rattle.protocol.proofs.Msg.{Msg}
use Rattle.protocol.proofs.Msg.Msg.{prepare, proposal, promise, report, learn}
use Rattle.protocol.proofs.Roles.{Seated, Leader}
use Rattle.roster.specs.declared.entry.Entry.TheVariants.{Lead as lead, Seat as seat, Carry as carry}

-- A ballot is the place of a Seat entry with a claim; ballots are in order of the first, then of the second.
-- (e, c) is not after (f, d)
pub record Upto (e c f d : ℕ) : Type 0 where
  pub low : e ≤ f
  pub tie : f ≤ e → c ≤ d

-- (e, c) is before (f, d)
pub record Under (e c f d : ℕ) : Type 0 where
  pub low : e ≤ f
  pub tie : f ≤ e → c < d

-- what was proposed, or accepted: under which ballot, for which number, and which line
abbrev pub Facts : Type 0 → Type 1
Facts L = ℕ → ℕ → ℕ → L → Type 0

-- one fact more
abbrev pub Add : {L : Type 0} → Facts L → ℕ → ℕ → ℕ → L → Facts L
Add P e c k l f d j m = P f d j m ⊎ ((f ≡ e) × (d ≡ c) × (j ≡ k) × (m ≡ l))

-- the acceptor x has promised (e, c) or a later ballot
abbrev pub HasPromised : {L : Type 0} → (ℕ → Seated L) → ℕ → ℕ → ℕ → Type 0
HasPromised B x e c = Upto e c (B x).s (B x).p

-- the acceptor x can no longer accept under the Seat entry at e and the claim c
abbrev pub NoLongerAccepts : {L : Type 0} → (ℕ → Seated L) → ℕ → ℕ → ℕ → Type 0
NoLongerAccepts B x e c = Under e c (B x).s (B x).p

-- no Lead entry, and no Seat entry, stands between two places
abbrev pub NoLead : {L : Type 0} → List (Entry L) → ℕ → ℕ → Type 0
NoLead R a b = (q u : ℕ) → a < q → q < b → At R q (lead u) → ⊥

abbrev pub NoSeat : {L : Type 0} → List (Entry L) → ℕ → ℕ → Type 0
NoSeat R a b = (q u : ℕ) → a < q → q < b → At R q (seat u) → ⊥

-- an entry that only a worker with a claim that is taken up appends
abbrev pub Quiet : {L : Type 0} → Entry L → Type 0
Quiet (lead w) = ⊥
Quiet (seat x) = Unit {0}
Quiet (carry k l) = Unit {0}

-- a Carry of k with l stands before place b
abbrev pub Before : {L : Type 0} → List (Entry L) → ℕ → ℕ → L → Type 0
Before R b k l = (q : ℕ) × (q < b) × At R q (carry k l)

-- a ballot that the roster admits
pub record Valid {L : Type 0} (R : List (Entry L)) (e c : ℕ) : Type 0 where
  pub led : ℕ
  pub lead_at : At R c (lead led)
  pub sat : ℕ
  pub seat_at : At R e (seat sat)
  pub native : c < e → NoLead R c e

-- k was accepted under seat e and a claim up to c
abbrev pub Known : {L : Type 0} → Facts L → ℕ → ℕ → ℕ → Type 0
Known {L} A e c k = (d : ℕ) × (l : L) × (d ≤ c) × A e d k l

-- nothing was proposed under (e, c)
abbrev pub NoneSent : {L : Type 0} → Facts L → ℕ → ℕ → Type 0
NoneSent {L} P e c = (k : ℕ) (l : L) → P e c k l → ⊥

-- n is the number of lines of which Known A e c holds; lines are 1 to 64
pub record Counts {L : Type 0} (A : Facts L) (e c n : ℕ) : Type 0 where
  pub f : ℕ → Bool
  pub many : n ≡ tally f 64
  pub sound : {k : ℕ} → f k ≡ true → Known A e c k
  pub whole : {d k : ℕ} {l : L} → d ≤ c → A e d k l → f k ≡ true
  pub small : {k : ℕ} → f k ≡ true → (0 < k) × (k ≤ 64)

-- what holds of the roster, the Proposals and what was accepted
pub record Global {L : Type 0} (R : List (Entry L)) (P A : Facts L) (B : ℕ → Seated L) : Type 0 where
  -- a Proposal under (e, c): a Lead entry stands at c, a Seat entry at e, and no Lead entry between them where the Lead is the earlier
  pub valid : {e c k : ℕ} {l : L} → P e c k l → Valid R e c
  -- its line number is from 1 to 64
  pub ranged : {e c k : ℕ} {l : L} → P e c k l → (0 < k) × (k ≤ 64)
  -- two Proposals of one claim for one line number have the same line
  pub one : {e f c k : ℕ} {l m : L} → P e c k l → P f c k m → l ≡ m
  -- what was accepted was proposed
  pub sent : {e c k : ℕ} {l : L} → A e c k l → P e c k l
  -- an acceptor has promised whatever it accepted
  pub past : {e c k x : ℕ} {l : L} → A e c k l → At R e (seat x) → HasPromised B x e c
  -- what was accepted under (e, c) is the line of every Proposal for that number under the same ballot or a later one
  pub main : {e c f d k : ℕ} {l m : L} → A e c k l → P f d k m → Upto e c f d → l ≡ m
  -- a Proposal under an earlier Seat entry is carried before a later one, or can no longer be accepted
  pub carry_or : {b y e c k x : ℕ} {l : L} → At R b (seat y) → P e c k l → e < b → At R e (seat x) → Before R b k l ⊎ NoLongerAccepts B x e c
  -- what was accepted under an earlier Seat entry is carried before a later one
  pub carry_acc : {b y e c k : ℕ} {l : L} → At R b (seat y) → A e c k l → e < b → Before R b k l
  -- a Proposal has the line of every Carry entry that stands before its Seat entry
  pub under_seat : {q e c k : ℕ} {l m : L} → P e c k l → At R q (carry k m) → q < e → l ≡ m
  -- and of every one that stands before its Lead entry
  pub under_lead : {q e c k : ℕ} {l m : L} → P e c k l → At R q (carry k m) → q < c → l ≡ m
  -- and of every one after its Lead entry, up to the next Lead entry
  pub own_carry : {q e c k : ℕ} {l m : L} → P e c k l → At R q (carry k m) → c < q → NoLead R c q → l ≡ m
  -- two Carry entries of one number have the same line
  pub carry_one : {q j k : ℕ} {l m : L} → At R q (carry k l) → At R j (carry k m) → l ≡ m
  -- what was accepted is the line of every Carry entry of its number
  pub acc_carry : {q e c k : ℕ} {l m : L} → A e c k l → At R q (carry k m) → l ≡ m
  -- before a Proposal whose Lead entry is the later, the seat had promised its ballot
  pub prop_past : {e c k x : ℕ} {l : L} → P e c k l → e < c → At R e (seat x) → HasPromised B x e c
  -- where a Seat or Carry entry stands after a Lead entry, the seat under which that Lead stands has promised its ballot
  pub seat_past : {e x c w q : ℕ} {y : Entry L} → At R e (seat x) → At R c (lead w) → e < c → NoSeat R e c → At R q y → Quiet y → c < q → HasPromised B x e c

-- what holds of the worker x as acceptor
pub record SeatedOk {L : Type 0} (R : List (Entry L)) (A : Facts L) (x : ℕ) (b : Seated L) : Type 0 where
  -- the place that it sits under is that of a Seat entry of its own
  pub sits : 0 < b.s → At R b.s (seat x)
  -- a filled cell was accepted under that entry
  pub has : {k : ℕ} {l : L} → b.cells k ≡ Some l → (c : ℕ) × A b.s c k l
  -- what was accepted under that entry is in its cell
  pub keeps : {c k : ℕ} {l : L} → A b.s c k l → b.cells k ≡ None → ⊥

-- what holds of the worker w while it has a claim
pub record Claim {L : Type 0} (R : List (Entry L)) (P A : Facts L) (B : ℕ → Seated L) (w : ℕ) (v : Leader L) : Type 0 where
  -- its claim is the place of a Lead entry of its own
  pub mine : At R v.c (lead w)
  -- which it has read
  pub read : v.c ≤ v.r
  -- and it has read a Seat entry
  pub sits : 0 < v.e
  -- it has read no later Lead entry
  pub newest : NoLead R v.c (suc v.r)
  -- the entry that it would read next is a Lead
  pub next : v.r < length R → (u : ℕ) × At R (suc v.r) (lead u)
  -- it has appended a Seat entry only since the claim was taken up
  pub moved : v.c < v.e → v.taken ≡ true
  -- where the claim is taken up, whatever was accepted up to its ballot is in hand
  pub knows : v.taken ≡ true → {e c k : ℕ} {l : L} → A e c k l → Upto e c v.e v.c → v.hand k ≡ Some l
  -- what was proposed under the claim is in hand
  pub proposed : {e k : ℕ} {l : L} → P e v.c k l → (v.taken ≡ true) × (v.hand k ≡ Some l)
  -- a claim that is taken up was promised by the seat
  pub past : v.taken ≡ true → v.e < v.c → HasPromised B v.a v.e v.c
  -- a count that has come is the number of lines that were accepted before the claim
  pub counted : v.taken ≡ false → {n : ℕ} → v.count ≡ Some n → HasPromised B v.a v.e v.c × (NoneSent P v.e v.c → Counts A v.e v.c n)
  -- a reported line was accepted, and is in hand
  pub told : v.taken ≡ false → {k : ℕ} → v.reported k ≡ true → (d : ℕ) × (l : L) × (d ≤ v.c) × A v.e d k l × (v.hand k ≡ Some l)

-- what holds of the worker w as leader
pub record LeaderOk {L : Type 0} (R : List (Entry L)) (P A : Facts L) (B : ℕ → Seated L) (w : ℕ) (v : Leader L) : Type 0 where
  -- it has read no more entries than there are
  pub fits : v.r ≤ length R
  -- the Seat entry that it goes by is one that it has read
  pub seat_read : v.e ≤ v.r
  -- that entry is its seat's
  pub seat_at : 0 < v.e → At R v.e (seat v.a)
  -- it is the newest that it has read
  pub newest : NoSeat R v.e (suc v.r)
  -- a line is marked as carried only where it has read a Carry entry of it
  pub marked : {k : ℕ} → v.carried k ≡ true → (l : L) × Before R (suc v.r) k l
  -- a Carry entry that it has read is in hand and marked
  pub carries : {q k : ℕ} {l : L} → q ≤ v.r → At R q (carry k l) → (v.carried k ≡ true) × (v.hand k ≡ Some l)
  -- only a claim can be taken up
  pub idle : v.taken ≡ true → 0 < v.c
  pub claim : 0 < v.c → Claim R P A B w v

-- what does not rest on the claim
pub record Base {L : Type 0} (R : List (Entry L)) (v : Leader L) : Type 0 where
  pub fits : v.r ≤ length R
  pub seat_read : v.e ≤ v.r
  pub seat_at : 0 < v.e → At R v.e (seat v.a)
  pub newest : NoSeat R v.e (suc v.r)
  pub marked : {k : ℕ} → v.carried k ≡ true → (l : L) × Before R (suc v.r) k l
  pub carries : {q k : ℕ} {l : L} → q ≤ v.r → At R q (carry k l) → (v.carried k ≡ true) × (v.hand k ≡ Some l)

-- what holds of a message
abbrev pub MsgOk : {L : Type 0} → List (Entry L) → Facts L → Facts L → (ℕ → Seated L) → Msg L → Type 0
MsgOk R P A B (prepare to from e c) = At R e (seat to) × At R c (lead from)
MsgOk R P A B (proposal to e c k l) = At R e (seat to) × P e c k l
MsgOk R P A B (promise to e c n) = (x : ℕ) × At R e (seat x) × HasPromised B x e c × (NoneSent P e c → Counts A e c n) × (0 < c)
MsgOk R P A B (report to e c k l) = (d : ℕ) × (d ≤ c) × A e d k l × (0 < c)
MsgOk R P A B (learn k l) = (e : ℕ) × (c : ℕ) × A e c k l

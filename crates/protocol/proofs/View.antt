-- What the lists say of each worker, and what keeps them in shape.
use Rattle.std.proofs.Common.{◌≡◌, ℕ, zero, suc, ◌^◌, ◌<◌, true, List, [], ◌∷◌, ◌++◌, length, get_or, take, set, Some, None, Option, sym, refl, ap, ◌∙◌, ap₂}
use Rattle.std.proofs.lemmas.List.{get_or-set_same, get_or-set_other}
use Rattle.roster.specs.declared.entry.Entry.{Entry}
use Rattle.roster.specs.declared.entry.Entry.TheVariants.{Lead as lead, Seat as seat, Carry as carry}
use Rattle.roster.specs.Model.{readable}
use Rattle.protocol.specs.declared.worker.Worker.{Worker}
use Rattle.protocol.specs.declared.message.Message.{Message}
use Rattle.protocol.specs.declared.message.Message.TheVariants.{Prepare as Prepared, Proposal as Proposed, Promise as Promised, Report as Reported, Learn as Learned}
use Rattle.protocol.proofs.Put.{put}
use Rattle.protocol.proofs.Msg.{Msg}
use Rattle.protocol.proofs.Msg.Msg.{prepare, proposal, promise, report, learn}
use Rattle.protocol.proofs.Roles.{Seated, Leader}
use Rattle.protocol.proofs.Model.{State, nth}
use Rattle.protocol.specs.Items.{item_at}
use Rattle.protocol.specs.Lines.{in_book, marked}
use Rattle.protocol.specs.Sizes.{Sized}
use Rattle.protocol.specs.Store.{Store, blank, worker_of}
use Rattle.protocol.proofs.Cells.{cell}
use Rattle.protocol.proofs.Tools.{put_both}
use Rattle.protocol.proofs.Sound.{Each}

abbrev pub Masked : Worker → Type 0
Masked x = x.reported < 2 ^ 64

module _ {L : Type 0} where
  -- a message without what the proof needs not know
  abbrev pub bare : Message L → Msg L
  bare (Prepared from to e c) = prepare to from e c
  bare (Proposed from to e c k l) = proposal to e c k l
  bare (Promised from to e c n) = promise to e c n
  bare (Reported from to e c k l) = report to e c k l
  bare (Learned from k l) = learn k l

  abbrev pub bares : List (Message L) → List (Msg L)
  bares [] = []
  bares (m ∷ ms) = bare m ∷ bares ms

  abbrev pub bare_of : Option (Message L) → Option (Msg L)
  bare_of None = None
  bare_of (Some m) = Some (bare m)

  abbrev pub leader_of : Worker → (ℕ → Option L) → Leader L
  leader_of x hand = record { r = x.mark; e = x.epoch; a = x.seat; c = x.claim; taken = x.taken; count = x.count; reported = marked x.reported; hand = hand; carried = marked x.carried }

  abbrev pub seated_of : Worker → (ℕ → Option L) → Seated L
  seated_of x cells = record { s = x.sits; p = x.promise; cells = cells }

  abbrev pub view : Store L → State L
  view g = record {
    n = length g.workers;
    room = g.places;
    leader = λ w. leader_of (worker_of g w) (cell g.hand w);
    seated = λ w. seated_of (worker_of g w) (cell g.accepted w);
    held = cell g.learned;
    msgs = bares g.messages;
    roster = g.roster.entries;
    cap = g.roster.capacity;
    opened = readable g.roster;
  }

  -- the line numbers of messages and entries
  abbrev pub MsgLine : Message L → Type 0
  MsgLine (Prepared from to e c) = Unit {0}
  MsgLine (Proposed from to e c k l) = in_book k ≡ true
  MsgLine (Promised from to e c n) = Unit {0}
  MsgLine (Reported from to e c k l) = in_book k ≡ true
  MsgLine (Learned from k l) = in_book k ≡ true

  abbrev pub EntryLine : Entry L → Type 0
  EntryLine (lead w) = Unit {0}
  EntryLine (seat w) = Unit {0}
  EntryLine (carry k l) = in_book k ≡ true

  pub record Fit (g : Store L) : Type 0 where
    pub sized : Sized (length g.workers) (length g.hand) (length g.accepted) (length g.learned) g.places
    pub masks : Each Masked g.workers
    pub mlines : Each MsgLine g.messages
    pub elines : Each EntryLine g.roster.entries

  pub bares_length : (ms : List (Message L)) → length (bares ms) ≡ length ms
  bares_length [] = refl
  bares_length (m ∷ ms) = ap suc (bares_length ms)

  pub bares_append : (ms ns : List (Message L)) → bares (ms ++ ns) ≡ bares ms ++ bares ns
  bares_append [] ns = refl
  bares_append (m ∷ ms) ns = ap (λ q. bare m ∷ q) (bares_append ms ns)

  pub bares_item : (ms : List (Message L)) (i : ℕ) → bare_of (item_at ms i) ≡ nth (bares ms) i
  unfolding item_at
  bares_item [] i = refl
  bares_item (m ∷ ms) zero = refl
  bares_item (m ∷ ms) (suc i) = bares_item ms i

  pub bares_set : (ms : List (Message L)) (i : ℕ) (m : Message L) → bares (set ms i m) ≡ set (bares ms) i (bare m)
  bares_set [] i m = refl
  bares_set (x ∷ xs) zero m = refl
  bares_set (x ∷ xs) (suc i) m = ap (λ q. bare x ∷ q) (bares_set xs i m)

  pub bares_take : (i : ℕ) (ms : List (Message L)) → bares (take i ms) ≡ take i (bares ms)
  bares_take zero ms = refl
  bares_take (suc i) [] = refl
  bares_take (suc i) (m ∷ ms) = ap (λ q. bare m ∷ q) (bares_take i ms)

  -- two states that agree in each part
  pub state_path : (g h : State L) → g.n ≡ h.n → g.room ≡ h.room → ((w : ℕ) → g.leader w ≡ h.leader w) → ((w : ℕ) → g.seated w ≡ h.seated w) → ((w : ℕ) → g.held w ≡ h.held w)
      → g.msgs ≡ h.msgs → g.roster ≡ h.roster → g.cap ≡ h.cap → g.opened ≡ h.opened → g ≡ h
  state_path g h n room ld sd held msgs roster cp opn = λ i. record { n = n i; room = room i; leader = λ w. ld w i; seated = λ w. sd w i; held = λ w. held w i; msgs = msgs i; roster = roster i; cap = cp i; opened = opn i }

  pub leader_path : (v o : Leader L) → v.r ≡ o.r → v.e ≡ o.e → v.a ≡ o.a → v.c ≡ o.c → v.taken ≡ o.taken → v.count ≡ o.count → v.reported ≡ o.reported → v.hand ≡ o.hand → v.carried ≡ o.carried → v ≡ o
  leader_path v o r e a c taken count reported hand carried = λ i. record { r = r i; e = e i; a = a i; c = c i; taken = taken i; count = count i; reported = reported i; hand = hand i; carried = carried i }

  -- a worker's record and its row of a table change
  pub row_put : {X : Type 0} (look : Worker → (ℕ → Option L) → X) (ws : List Worker) (t t' : List (Option L)) (w : ℕ) (x : Worker) (v : X) → w < length ws → look x (cell t' w) ≡ v → ((u : ℕ) → (u ≡ w → ⊥) → cell t' u ≡ cell t u)
      → (u : ℕ) → look (get_or (set ws w x) u blank) (cell t' u) ≡ put (λ u. look (get_or ws u blank) (cell t u)) w v u
  row_put look ws t t' w x v low own away u = put_both (λ o. look (get_or (set ws w x) u blank) (cell t' u) ≡ o) (λ u. look (get_or ws u blank) (cell t u)) w v u
      (λ here. ap (λ i. look (get_or (set ws w x) i blank) (cell t' i)) here ∙ ap (λ i. look i (cell t' w)) (get_or-set_same ws w x blank low) ∙ own)
      (λ apart. ap₂ look (get_or-set_other ws w u x blank apart) (away u apart))

  -- only its record changes, in what is not looked at
  pub row_same : {X : Type 0} (look : Worker → (ℕ → Option L) → X) (ws : List Worker) (t : List (Option L)) (w : ℕ) (x : Worker) → w < length ws → look x (cell t w) ≡ look (get_or ws w blank) (cell t w)
      → (u : ℕ) → look (get_or (set ws w x) u blank) (cell t u) ≡ look (get_or ws u blank) (cell t u)
  row_same look ws t w x low own u = row_put look ws t t w x (look (get_or ws w blank) (cell t w)) low own (λ u apart. refl) u
      ∙ put_both (λ o. o ≡ look (get_or ws u blank) (cell t u)) (λ u. look (get_or ws u blank) (cell t u)) w (look (get_or ws w blank) (cell t w)) u (λ here. ap (λ i. look (get_or ws i blank) (cell t i)) (sym here)) (λ apart. refl)

  -- only its row changes
  pub row_cells : {X : Type 0} (look : Worker → (ℕ → Option L) → X) (ws : List Worker) (t t' : List (Option L)) (w : ℕ) (v : X) → look (get_or ws w blank) (cell t' w) ≡ v → ((u : ℕ) → (u ≡ w → ⊥) → cell t' u ≡ cell t u)
      → (u : ℕ) → look (get_or ws u blank) (cell t' u) ≡ put (λ u. look (get_or ws u blank) (cell t u)) w v u
  row_cells look ws t t' w v own away u = put_both (λ o. look (get_or ws u blank) (cell t' u) ≡ o) (λ u. look (get_or ws u blank) (cell t u)) w v u
      (λ here. ap (λ i. look (get_or ws i blank) (cell t' i)) here ∙ own)
      (λ apart. ap (look (get_or ws u blank)) (away u apart))

pub each_get_d : {X : Type 0} (Φ : X → Type 0) (xs : List X) (i : ℕ) (d : X) → Φ d → Each Φ xs → Φ (get_or xs i d)
each_get_d Φ [] i d z h = z
each_get_d Φ (x ∷ xs) zero d z h = h.0
each_get_d Φ (x ∷ xs) (suc i) d z h = each_get_d Φ xs i d z h.1

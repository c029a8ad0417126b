-- A step of the store is refused exactly where the state's is, with the same number.
use Rattle.std.proofs.Common.{◌≡◌, ℕ, zero, suc, ◌+◌, ◌-◌, ◌*◌, ◌<◌, ◌≤◌, Bool, true, false, cond, not, ◌&&◌, eqb, ltb, List, [], ◌∷◌, ◌++◌, length, get_or, Some, None, Ok, Err, Option, Result, sym, refl, ap, ◌∙◌, ap₂, add-one, arith, is_some}
use lib.Dec.{leb-suc-zero, leb-suc-suc}
use Rattle.std.proofs.lemmas.Bool.{both_ways, and_from, le-leb, lt-ltb, eq-eqb, ne_eqb, cond-true, cond-false, ltb-true}
use Rattle.roster.specs.declared.fault.RosterFault.{RosterFault}
use Rattle.roster.specs.declared.fault.RosterFault.TheVariants.{Shut, NotNext, Full, NoEntry}
use Rattle.roster.specs.Answers.{read_answer, entry_answer}
use Rattle.roster.specs.Model.{RosterModel, readable}
use Rattle.protocol.specs.Words.{bump, tally}
use Rattle.protocol.specs.declared.worker.Worker.{Worker}
use Rattle.protocol.specs.declared.fault.StepFault.{StepFault}
use Rattle.protocol.specs.declared.fault.StepFault.TheVariants.{Unmade, NoWorker, NoLine, NoMessage, NotAddressed, NotReady, NotTaken, WrongSeat, WrongLine, Late, NoRoom}
use Rattle.protocol.specs.declared.message.Message.{Message}
use Rattle.protocol.specs.declared.message.Message.TheVariants.{Prepare as Prepared, Proposal as Proposed, Promise as Promised, Report as Reported, Learn as Learned}
use Rattle.protocol.specs.declared.step.Answer.{Answer}
use Rattle.protocol.specs.declared.step.Step.{Step}
use Rattle.protocol.specs.declared.step.Step.TheVariants.{Found, Read, Lead, Prepare, Propose, Carry, Reseat, Deliver, Lose}
use Rattle.protocol.proofs.Model.{Asks, refusal, nth, asks, appending, delivering, line_ok, leader_all_marked, report_all, report_line}
use Rattle.protocol.specs.Faults.{number}
use Rattle.protocol.specs.Items.{item_at}
use Rattle.protocol.specs.Lines.{in_book, marked}
use Rattle.protocol.specs.Sizes.{Sized, sized_test}
use Rattle.protocol.specs.Store.{Store, worker_of, after, must, raised, plainly, asked, made_in, appends, cell_at, held, lines_in, reports, report_of, all_marked, seated_cells, may_deliver, step_result, room_for, has_room, timely_at, timely_to, sent_as, unmarked}
use Rattle.protocol.proofs.Cells.{cell, clear_own}
use Rattle.protocol.proofs.View.{view, bares, bare_of, bares_length, bares_item, bares_append, leader_of, Fit}

abbrev pub refused : {X : Type 0} → Result X StepFault → Option ℕ
refused (Ok x) = None
refused (Err f) = Some (number f)

sized_made : (a b c d e : ℕ) → Sized a b c d e → sized_test a b c d e ≡ true
sized_made a b c d e s =
    and_from _ _ (le-leb 3 a s.few) (and_from _ _ (le-leb a 8 s.many) (and_from _ _ (eq-eqb b (64 * a) s.hands) (and_from _ _ (eq-eqb c (64 * a) s.accepteds)
    (and_from _ _ (eq-eqb d (64 * a) s.learneds) (and_from _ _ (le-leb 16 e s.least) (le-leb e 4096 s.most))))))

made_then : {Y : Type 0} (m b : Bool) (x : Worker) (F : Worker → Result Y StepFault) → m ≡ true → after (cond m (cond b (Ok x) (Err NoWorker)) (Err Unmade)) F ≡ cond b (F x) (Err NoWorker)
made_then false b x F h = absurd (both_ways false refl h)
made_then true true x F h = refl
made_then true false x F h = refl

-- questions one by one
append_qs : (o q c : Bool) → refused (plainly (raised (cond o (cond q (cond c (Ok tt) (Err Full)) (Err NotNext)) (Err Shut)))) ≡ refusal ((o, 20) ∷ (q, 21) ∷ (c, 22) ∷ [])
append_qs false q c = refl
append_qs true false c = refl
append_qs true true false = refl
append_qs true true true = refl

found_qs : (b : Bool) (A : Result Unit StepFault) (qs : Asks) → refused (plainly A) ≡ refusal qs → refused (plainly (cond b A (Err NoWorker))) ≡ refusal ((b, 2) ∷ qs)
found_qs false A qs h = refl
found_qs true A qs h = h

lead_qs : (b e s : Bool) (A : Result Unit StepFault) (qs : Asks) → refused (plainly A) ≡ refusal qs
    → refused (plainly (cond b (after {X = Unit {0}} (cond e (cond s (Err WrongSeat) (Ok tt)) (Err NotReady)) (λ _. A)) (Err NoWorker))) ≡ refusal ((b, 2) ∷ (e, 6) ∷ (not s, 8) ∷ qs)
lead_qs false e s A qs h = refl
lead_qs true false s A qs h = refl
lead_qs true true true A qs h = refl
lead_qs true true false A qs h = h

prepare_qs : (b c m : Bool) → refused (plainly (cond b (after {X = Unit {0}} (cond c (cond m (Ok tt) (Err NoRoom)) (Err NotReady)) (λ _. Ok tt)) (Err NoWorker))) ≡ refusal ((b, 2) ∷ (c, 6) ∷ (m, 11) ∷ [])
prepare_qs false c m = refl
prepare_qs true false m = refl
prepare_qs true true false = refl
prepare_qs true true true = refl

propose_qs : (b k c t m : Bool) (s : Answer)
    → refused (cond b (after {X = Unit {0}} (cond k (cond c (cond t (cond m (Ok tt) (Err NoRoom)) (Err NotTaken)) (Err NotReady)) (Err NoLine)) (λ _. Ok s)) (Err NoWorker)) ≡ refusal ((b, 2) ∷ (k, 3) ∷ (c, 6) ∷ (t, 7) ∷ (m, 11) ∷ [])
propose_qs false k c t m s = refl
propose_qs true false c t m s = refl
propose_qs true true false t m s = refl
propose_qs true true true false m s = refl
propose_qs true true true true false s = refl
propose_qs true true true true true s = refl

carry_qs : {L : Type 0} (x : Worker) (j : ℕ) (b k c t : Bool) (o : Option L) (A : Result Unit StepFault) (qs : Asks) → refused (plainly A) ≡ refusal qs
    → refused (plainly (cond b (after {X = Unit {0}} (cond k (cond c (cond t (Ok tt) (Err NotTaken)) (Err NotReady)) (Err NoLine)) (λ _. after (unmarked x j o) (λ _. A))) (Err NoWorker)))
    ≡ refusal ((b, 2) ∷ (k, 3) ∷ (c, 6) ∷ (t, 7) ∷ (is_some (cond k o None) && not (marked x.carried j), 9) ∷ qs)
carry_qs x j false k c t o A qs h = refl
carry_qs x j true false c t o A qs h = refl
carry_qs x j true true false t o A qs h = refl
carry_qs x j true true true false o A qs h = refl
carry_qs x j true true true true None A qs h = refl
carry_qs x j true true true true (Some l) A qs h = last (marked x.carried j)
  where
    last : (n : Bool) → refused (plainly (after (cond n (Err WrongLine) (Ok l)) (λ _. A))) ≡ refusal ((not n, 9) ∷ qs)
    last true = refl
    last false = h

reseat_qs : (b d c t s m : Bool) (A : Result Unit StepFault) (qs : Asks) → refused (plainly A) ≡ refusal qs
    → refused (plainly (cond b (after {X = Unit {0}} (cond d (cond c (cond t (cond s (cond m (Ok tt) (Err WrongLine)) (Err WrongSeat)) (Err NotTaken)) (Err NotReady)) (Err NoWorker)) (λ _. A)) (Err NoWorker)))
    ≡ refusal ((b && d, 2) ∷ (c, 6) ∷ (t, 7) ∷ (s, 8) ∷ (m, 9) ∷ qs)
reseat_qs false d c t s m A qs h = refl
reseat_qs true false c t s m A qs h = refl
reseat_qs true true false t s m A qs h = refl
reseat_qs true true true false s m A qs h = refl
reseat_qs true true true true false m A qs h = refl
reseat_qs true true true true true false A qs h = refl
reseat_qs true true true true true true A qs h = h

deliver_qs : (b l : Bool) (A : Result Unit StepFault) (qs : Asks) → (b ≡ true → refused (plainly A) ≡ refusal qs) → refused (plainly (cond b (after (must l NoMessage) (λ _. A)) (Err NoWorker))) ≡ refusal ((b, 2) ∷ (l, 4) ∷ qs)
deliver_qs false l A qs h = refl
deliver_qs true false A qs h = refl
deliver_qs true true A qs h = h refl

three_qs : (t d m : Bool) → refused (plainly (cond t (cond d (cond m (Ok tt) (Err NoRoom)) (Err Late)) (Err NotAddressed))) ≡ refusal ((t, 5) ∷ (d, 10) ∷ (m, 11) ∷ [])
three_qs false d m = refl
three_qs true false m = refl
three_qs true true false = refl
three_qs true true true = refl

two_qs : (t d : Bool) → refused (plainly (cond t (cond d (Ok tt) (Err Late)) (Err NotAddressed))) ≡ refusal ((t, 5) ∷ (d, 10) ∷ [])
two_qs false d = refl
two_qs true false = refl
two_qs true true = refl

lose_qs : (m l : Bool) → m ≡ true → refused (plainly (after (must m Unmade) (λ _. must l NoMessage))) ≡ refusal ((l, 4) ∷ [])
lose_qs false l h = absurd (both_ways false refl h)
lose_qs true false h = refl
lose_qs true true h = refl

-- what the roster answers a read
abbrev pub ok_or : {X : Type 0} → Option X → Result X RosterFault
ok_or None = Err NoEntry
ok_or (Some x) = Ok x

module _ {X : Type 0} where
  nth_answer : (xs : List X) (i : ℕ) → entry_answer xs i ≡ ok_or (nth xs i)
  nth_answer [] i = refl
  nth_answer (x ∷ xs) zero = refl
  nth_answer (x ∷ xs) (suc i) = nth_answer xs i

  nth_some : (xs : List X) (i : ℕ) → is_some (nth xs i) ≡ ltb i (length xs)
  nth_some [] i = sym (leb-suc-zero i)
  nth_some (x ∷ xs) zero = sym (lt-ltb 0 (suc (length xs)) (omega arith))
  nth_some (x ∷ xs) (suc i) = nth_some xs i ∙ sym (leb-suc-suc (suc i) (length xs))

  pub read_is : (m : RosterModel X) (r : ℕ) → read_answer m (r + 1) ≡ cond (readable m) (ok_or (nth m.entries r)) (Err Shut)
  read_is m r = ap (λ q. cond (readable m) q (Err Shut)) (cond-false (eqb (r + 1) 0) (Err NoEntry) (entry_answer m.entries (r + 1 - 1)) (ne_eqb (r + 1) 0 (λ h. omega arith))
      ∙ ap (entry_answer m.entries) (let e : r + 1 - 1 ≡ r = omega arith in e) ∙ nth_answer m.entries r)

read_qs : {X : Type 0} (b o : Bool) (n : Option X) → refused (plainly (cond b (after (raised (cond o (ok_or n) (Err Shut))) (λ _. Ok tt)) (Err NoWorker))) ≡ refusal ((b, 2) ∷ (o, 20) ∷ (is_some n, 23) ∷ [])
read_qs false o n = refl
read_qs true false n = refl
read_qs true true None = refl
read_qs true true (Some x) = refl

module _ {L : Type 0} where
  -- a worker's cell by its line number
  pub cell_at_lem : (t : List (Option L)) (w n : ℕ) → n < 64 → get_or t (64 * w + n) None ≡ cell t w (suc n)
  cell_at_lem t w n h = sym (cond-true (line_ok (suc n)) _ None (and_from _ _ (lt-ltb 0 (suc n) (omega arith)) (le-leb (suc n) 64 (omega arith))) ∙ ap (λ i. get_or t (64 * w + i) None) (let e : suc n - 1 ≡ n = omega arith in e))

  marks_same : (x : Worker) (w : ℕ) (t : List (Option L)) (n : ℕ) → n ≤ 64 → all_marked x.carried w n t ≡ leader_all_marked (leader_of x (cell t w)) n
  unfolding all_marked
  marks_same x w t zero h = refl
  marks_same x w t (suc n) h = ap₂ ◌&&◌
      (ap₂ (λ a b. cond a b true) (ap is_some (cell_at_lem t w n (omega arith))) (ap (marked x.carried) (add-one n)))
      (marks_same x w t n (omega arith))

  held-bump : (o : Option L) (n : ℕ) → n + held o ≡ bump (is_some o) n
  held-bump None n = omega arith
  held-bump (Some l) n = omega arith

  pub lines_same : (w : ℕ) (t : List (Option L)) (n : ℕ) → n ≤ 64 → lines_in w n t ≡ tally (λ k. is_some (cell t w k)) n
  unfolding lines_in
  lines_same w t zero h = refl
  lines_same w t (suc n) h = held-bump (get_or t (64 * w + n) None) (lines_in w n t) ∙ ap₂ (λ o q. bump (is_some o) q) (cell_at_lem t w n (omega arith)) (lines_same w t n (omega arith))

  report_same : (w to e c k : ℕ) (o : Option L) → bares (report_of w to e c k o) ≡ report_line to e c k o
  report_same w to e c k None = refl
  report_same w to e c k (Some l) = refl

  pub reports_same : (w to e c : ℕ) (t : List (Option L)) (n : ℕ) → n ≤ 64 → bares (reports w to e c n t) ≡ report_all to e c (cell t w) n
  unfolding reports
  reports_same w to e c t zero h = refl
  reports_same w to e c t (suc n) h = bares_append (reports w to e c n t) (report_of w to e c (n + 1) (get_or t (64 * w + n) None))
      ∙ ap₂ ◌++◌ (reports_same w to e c t n (omega arith)) (report_same w to e c (n + 1) (get_or t (64 * w + n) None) ∙ ap₂ (report_line to e c) (add-one n) (cell_at_lem t w n (omega arith)))

  -- the accepted cells of an acceptor at a Prepare or Proposal
  pub seated_cells_lem : (x : Worker) (e w n : ℕ) (t : List (Option L)) → length t ≡ 64 * n → w < n → cell (seated_cells x e w t) w ≡ cond (ltb x.sits e) (λ k. None) (cell t w)
  seated_cells_lem x e w n t len low = go (ltb x.sits e)
    where
      go : (b : Bool) → cell (cond b (Rattle.protocol.specs.Store.cleared 0 w 64 t) t) w ≡ cond b (λ k. None) (cell t w)
      go true = clear_own t n w len low 0
      go false = refl

  module _ (g : Store L) (fit : Fit g) where
    pub is_made : made_in g ≡ true
    is_made = sized_made _ _ _ _ _ fit.sized

    pub asked_then : {Y : Type 0} (w : ℕ) (F : Worker → Result Y StepFault) → after (asked g w) F ≡ cond (ltb w (length g.workers)) (F (worker_of g w)) (Err NoWorker)
    asked_then w F = made_then (made_in g) (ltb w (length g.workers)) (worker_of g w) F is_made

    appends_qs : (p q : ℕ) → p ≡ q → refused (plainly (appends g p)) ≡ refusal (appending (view g) q)
    appends_qs p q e = append_qs (readable g.roster) (eqb p (length g.roster.entries + 1)) (ltb (length g.roster.entries) g.roster.capacity)
        ∙ ap (λ z. refusal ((readable g.roster, 20) ∷ (z, 21) ∷ (ltb (length g.roster.entries) g.roster.capacity, 22) ∷ [])) (ap₂ eqb e (add-one (length g.roster.entries)))

    room_same : ltb (length g.messages) g.places ≡ ltb (length (bares g.messages)) g.places
    room_same = ap (λ n. ltb n g.places) (sym (bares_length g.messages))

    deliver_may : (w : ℕ) → w < length g.workers → (o : Option (Message L)) → refused (plainly (may_deliver o (worker_of g w) w g)) ≡ refusal (delivering (view g) w (bare_of o))
    deliver_may w low None = refl
    deliver_may w low (Some (Prepared from to e c)) = three_qs (eqb to w) (timely_at (worker_of g w) e c) (has_room g (lines_in w 64 (seated_cells (worker_of g w) e w g.accepted)))
        ∙ ap₂ (λ n q. refusal ((eqb to w, 5) ∷ (timely_at (worker_of g w) e c, 10) ∷ (ltb (n + q) g.places, 11) ∷ [])) (sym (bares_length g.messages))
        (lines_same w (seated_cells (worker_of g w) e w g.accepted) 64 (omega arith) ∙ ap (λ f. tally (λ k. is_some (f k)) 64) (seated_cells_lem (worker_of g w) e w (length g.workers) g.accepted fit.sized.accepteds low))
    deliver_may w low (Some (Proposed from to e c k l)) = three_qs (eqb to w) (timely_at (worker_of g w) e c) (room_for g) ∙ ap (λ z. refusal ((eqb to w, 5) ∷ (timely_at (worker_of g w) e c, 10) ∷ (z, 11) ∷ [])) room_same
    deliver_may w low (Some (Promised from to e c n)) = two_qs (eqb to w) (timely_to (worker_of g w) e c)
    deliver_may w low (Some (Reported from to e c k l)) = two_qs (eqb to w) (timely_to (worker_of g w) e c)
    deliver_may w low (Some (Learned from k l)) = refl

    pub numbered : (s : Step L) → refused (step_result s g) ≡ refusal (asks s (view g))
    numbered (Found a) = ap (λ r. refused (plainly r)) (asked_then a _) ∙ found_qs (ltb a (length g.workers)) (appends g 1) (appending (view g) 1) (appends_qs 1 1 refl)
    numbered (Read w) = ap (λ r. refused (plainly r)) (asked_then w _ ∙ ap (λ q. cond (ltb w (length g.workers)) (after (raised q) (λ _. Ok tt)) (Err NoWorker)) (read_is g.roster (worker_of g w).mark))
        ∙ read_qs (ltb w (length g.workers)) (readable g.roster) (nth g.roster.entries (worker_of g w).mark) ∙ ap (λ z. refusal ((ltb w (length g.workers), 2) ∷ (readable g.roster, 20) ∷ (z, 23) ∷ [])) (nth_some g.roster.entries (worker_of g w).mark)
    numbered (Lead w) = ap (λ r. refused (plainly r)) (asked_then w _)
        ∙ lead_qs (ltb w (length g.workers)) (ltb 0 (worker_of g w).epoch) (eqb w (worker_of g w).seat) (appends g ((worker_of g w).mark + 1)) (appending (view g) (suc (worker_of g w).mark)) (appends_qs ((worker_of g w).mark + 1) (suc (worker_of g w).mark) (add-one (worker_of g w).mark))
    numbered (Prepare w) = ap (λ r. refused (plainly r)) (asked_then w _) ∙ prepare_qs (ltb w (length g.workers)) (ltb 0 (worker_of g w).claim) (room_for g)
        ∙ ap (λ z. refusal ((ltb w (length g.workers), 2) ∷ (ltb 0 (worker_of g w).claim, 6) ∷ (z, 11) ∷ [])) room_same
    numbered (Propose w k l) = ap refused (asked_then w _) ∙ propose_qs (ltb w (length g.workers)) (in_book k) (ltb 0 (worker_of g w).claim) (worker_of g w).taken (room_for g) (sent_as (cell_at g.hand w k))
        ∙ ap (λ z. refusal ((ltb w (length g.workers), 2) ∷ (in_book k, 3) ∷ (ltb 0 (worker_of g w).claim, 6) ∷ ((worker_of g w).taken, 7) ∷ (z, 11) ∷ [])) room_same
    numbered (Carry w k) = ap (λ r. refused (plainly r)) (asked_then w _)
        ∙ carry_qs (worker_of g w) k (ltb w (length g.workers)) (in_book k) (ltb 0 (worker_of g w).claim) (worker_of g w).taken (cell_at g.hand w k) (appends g ((worker_of g w).mark + 1)) (appending (view g) (suc (worker_of g w).mark)) (appends_qs ((worker_of g w).mark + 1) (suc (worker_of g w).mark) (add-one (worker_of g w).mark))
    numbered (Reseat w b) = ap (λ r. refused (plainly r)) (asked_then w _)
        ∙ reseat_qs (ltb w (length g.workers)) (ltb b (length g.workers)) (ltb 0 (worker_of g w).claim) (worker_of g w).taken (not (eqb b w) && not (eqb b (worker_of g w).seat)) (all_marked (worker_of g w).carried w 64 g.hand) (appends g ((worker_of g w).mark + 1)) (appending (view g) (suc (worker_of g w).mark)) (appends_qs ((worker_of g w).mark + 1) (suc (worker_of g w).mark) (add-one (worker_of g w).mark))
        ∙ ap (λ z. refusal ((ltb w (length g.workers) && ltb b (length g.workers), 2) ∷ (ltb 0 (worker_of g w).claim, 6) ∷ ((worker_of g w).taken, 7) ∷ (not (eqb b w) && not (eqb b (worker_of g w).seat), 8) ∷ (z, 9) ∷ appending (view g) (suc (worker_of g w).mark))) (marks_same (worker_of g w) w g.hand 64 (omega arith))
    numbered (Deliver m w) = ap (λ r. refused (plainly r)) (asked_then w _)
        ∙ deliver_qs (ltb w (length g.workers)) (ltb m (length g.messages)) (may_deliver (item_at g.messages m) (worker_of g w) w g) (delivering (view g) w (bare_of (item_at g.messages m))) (λ low. deliver_may w (ltb-true w (length g.workers) low) (item_at g.messages m))
        ∙ ap₂ (λ n o. refusal ((ltb w (length g.workers), 2) ∷ (ltb m n, 4) ∷ delivering (view g) w o)) (sym (bares_length g.messages)) (bares_item g.messages m)
    numbered (Lose m) = lose_qs (made_in g) (ltb m (length g.messages)) is_made ∙ ap (λ n. refusal ((ltb m n, 4) ∷ [])) (sym (bares_length g.messages))

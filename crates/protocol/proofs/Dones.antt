-- What a step does to the store, it does to what the store says.
use Rattle.std.proofs.Common.{◌≡◌, ℕ, zero, suc, ◌-◌, ◌*◌, ◌<◌, true, eqb, ltb, List, [], ◌∷◌, ◌++◌, length, take, set, Some, None, Err, Option, sym, refl, ap, ◌∙◌, ap₂, add-one, arith, length-set, is_some}
use mathlib.Core.Path.{fun_ext}
use Rattle.std.specs.Option.{option_eq}
use Rattle.std.proofs.lemmas.Bool.{cond-true, cond_both, ltb-true, and_parts}
use Rattle.roster.specs.declared.entry.Entry.{Entry}
use Rattle.roster.specs.declared.entry.Entry.TheVariants.{Lead as lead, Seat as seat, Carry as carry}
use Rattle.roster.specs.declared.fault.RosterFault.TheVariants.{Shut}
use Rattle.roster.specs.Model.{readable}
use Rattle.protocol.specs.Words.{tally}
use Rattle.protocol.specs.declared.worker.Worker.{Worker}
use Rattle.protocol.specs.declared.message.Message.{Message}
use Rattle.protocol.specs.declared.message.Message.TheVariants.{Prepare as Prepared, Proposal as Proposed, Promise as Promised, Report as Reported, Learn as Learned}
use Rattle.protocol.specs.declared.step.Step.{Step}
use Rattle.protocol.specs.declared.step.Step.TheVariants.{Found, Read, Lead, Prepare, Propose, Carry, Reseat, Deliver, Lose}
use Rattle.protocol.proofs.Put.{put}
use Rattle.protocol.proofs.Roles.{Seated, Leader, sits, read_lead, read_seat, read_carry, leads, carries, takes, settle, counts, accepts, reports as reports-to}
use Rattle.protocol.proofs.Msg.{Msg}
use Rattle.protocol.proofs.Msg.Msg.{promise, learn}
use Rattle.protocol.proofs.Model.{nth, asks, does, with_leader, with_seated, with_held, with_msgs, send, reads, proposes, carrying, delivers, lose_at, report_all, fills as fills-in}
use Rattle.protocol.specs.Items.{item_at}
use Rattle.protocol.specs.Lines.{in_book, marked, bit_of, cell_of}
use lib.Bits.{bit_or}
use Rattle.protocol.specs.Store.{Store, blank, worker_of, cell_at, lines_in, reports, seated_cells, cleared, step_done, with_worker, with_hand, with_accepted, with_learned, with_messages, entering, sending, read_worker, read_by, lead_worker, line_sent, carry_worker, carry_by, seated_worker, counted_worker, reported_worker, deliver_by, fills, lose_by}
use Rattle.protocol.proofs.Cells.{cell, marked_or, ones_marked, or_fits, set_own, set_away, clear_own, clear_away, clear-length}
use Rattle.protocol.proofs.Tools.{put_both}
use Rattle.protocol.proofs.Sound.{Passed, each_nth}
use Rattle.protocol.proofs.Numbers.{ok_or, read_is, lines_same, reports_same, seated_cells_lem}
use Rattle.protocol.proofs.View.{view, bares, bare_of, bares_length, bares_item, bares_append, bares_set, bares_take, leader_of, seated_of, Fit, Masked, MsgLine, EntryLine, state_path, leader_path, row_put, row_same, row_cells, each_get_d}

put_noop : {X : Type 0} (f : ℕ → X) (k : ℕ) (v : X) → f k ≡ v → (j : ℕ) → put f k v j ≡ f j
put_noop f k v e j = put_both (λ o. o ≡ f j) f k v j (λ here. sym e ∙ ap f (sym here)) (λ apart. refl)

item_nth : {X : Type 0} (xs : List X) (i : ℕ) → item_at xs i ≡ nth xs i
unfolding item_at
item_nth [] i = refl
item_nth (x ∷ xs) zero = refl
item_nth (x ∷ xs) (suc i) = item_nth xs i

module _ {L : Type 0} where
  -- a worker's record and its hand change
  by_leader : (g : Store L) (w : ℕ) (x : Worker) (t : List (Option L)) (v : Leader L) → w < length g.workers → leader_of x (cell t w) ≡ v → ((u : ℕ) → (u ≡ w → ⊥) → cell t u ≡ cell g.hand u)
      → x.sits ≡ (worker_of g w).sits → x.promise ≡ (worker_of g w).promise → view (with_worker w x (with_hand t g)) ≡ with_leader w v (view g)
  by_leader g w x t v low own away si pr =
      state_path (view (with_worker w x (with_hand t g))) (with_leader w v (view g)) (length-set g.workers w x) refl
      (row_put leader_of g.workers g.hand t w x v low own away)
      (row_same seated_of g.workers g.accepted w x low (ap₂ (λ a b. record { s = a; p = b; cells = cell g.accepted w }) si pr))
      (λ u. refl) refl refl refl refl

  -- its accepted cells and what it promised change, and messages are sent
  by_seated : (g : Store L) (w e c : ℕ) (t : List (Option L)) (ms : List (Message L)) (b : Seated L) (qs : List (Msg L)) → w < length g.workers → seated_of (seated_worker (worker_of g w) e c) (cell t w) ≡ b → ((u : ℕ) → (u ≡ w → ⊥) → cell t u ≡ cell g.accepted u)
      → bares ms ≡ bares g.messages ++ qs → view (with_worker w (seated_worker (worker_of g w) e c) (with_accepted t (with_messages ms g))) ≡ send qs (with_seated w b (view g))
  by_seated g w e c t ms b qs low own away sent =
      state_path (view (with_worker w (seated_worker (worker_of g w) e c) (with_accepted t (with_messages ms g)))) (send qs (with_seated w b (view g))) (length-set g.workers w (seated_worker (worker_of g w) e c)) refl
      (row_same leader_of g.workers g.hand w (seated_worker (worker_of g w) e c) low refl)
      (row_put seated_of g.workers g.accepted t w (seated_worker (worker_of g w) e c) b low own away)
      (λ u. refl) sent refl refl refl

  fills_same : (o : Option L) (l : L) → fills o l ≡ fills-in o l
  fills_same None l = refl
  fills_same (Some m) l = refl

  lose_same : (o : Option (Message L)) (m : ℕ) (ms : List (Message L)) → bares (lose_by o m ms) ≡ lose_at m (bares ms) (bare_of o)
  lose_same None m ms = refl
  lose_same (Some x) m ms = bares_take (length ms - 1) (set ms m x) ∙ ap₂ take (ap (λ n. n - 1) (sym (bares_length ms))) (bares_set ms m x)

  module _ (g : Store L) (fit : Fit g) where
    -- a read of an entry
    read_done_lem : (w : ℕ) → w < length g.workers → (o : Option (Entry L)) → ((y : Entry L) → o ≡ Some y → EntryLine y) → view (read_by (ok_or o) w g) ≡ with_leader w (reads o ((view g).leader w)) (view g)
    read_done_lem w low None line = state_path (view g) (with_leader w ((view g).leader w) (view g)) refl refl (λ u. sym (put_noop (view g).leader w ((view g).leader w) refl u)) (λ u. refl) (λ u. refl) refl refl refl refl
    read_done_lem w low (Some (lead u)) line = by_leader g w (read_worker {L = L} (lead u) (worker_of g w)) g.hand (read_lead ((view g).leader w)) low
        (leader_path (leader_of (read_worker {L = L} (lead u) (worker_of g w)) (cell g.hand w)) (read_lead ((view g).leader w)) (add-one (worker_of g w).mark) refl refl refl refl refl refl refl refl) (λ u apart. refl) refl refl
    read_done_lem w low (Some (seat a)) line = by_leader g w (read_worker {L = L} (seat a) (worker_of g w)) g.hand (read_seat a ((view g).leader w)) low
        (leader_path (leader_of (read_worker {L = L} (seat a) (worker_of g w)) (cell g.hand w)) (read_seat a ((view g).leader w)) (add-one (worker_of g w).mark) (add-one (worker_of g w).mark) refl refl refl refl refl refl refl) (λ u apart. refl) refl refl
    read_done_lem w low (Some (carry k l)) line =
        let ok : in_book k ≡ true = line (carry k l) refl in
        ap (λ t. view (with_worker w (read_worker (carry k l) (worker_of g w)) (with_hand t g))) (cond-true (in_book k) (set g.hand (cell_of w k) (Some l)) g.hand ok)
        ∙ by_leader g w (read_worker (carry k l) (worker_of g w)) (set g.hand (cell_of w k) (Some l)) (read_carry k l ((view g).leader w)) low
        (leader_path (leader_of (read_worker (carry k l) (worker_of g w)) (cell (set g.hand (cell_of w k) (Some l)) w)) (read_carry k l ((view g).leader w)) (add-one (worker_of g w).mark) refl refl refl refl refl refl
        (set_own g.hand (length g.workers) w fit.sized.hands low k (Some l) ok) (fun_ext (marked_or (worker_of g w).carried k ok)))
        (set_away g.hand (length g.workers) w fit.sized.hands low k (Some l) ok) refl refl

    propose_done_lem : (w k : ℕ) (given : L) → w < length g.workers → in_book k ≡ true → (o : Option L) → cell g.hand w k ≡ o
        → view (with_hand (set g.hand (cell_of w k) (Some (line_sent o given))) (sending (Proposed w (worker_of g w).seat (worker_of g w).epoch (worker_of g w).claim k (line_sent o given)) g)) ≡ proposes w k given o (view g)
    propose_done_lem w k given low ok None e =
        state_path (view (with_hand (set g.hand (cell_of w k) (Some given)) (sending (Proposed w (worker_of g w).seat (worker_of g w).epoch (worker_of g w).claim k given) g))) (proposes w k given None (view g)) refl refl
        (row_cells leader_of g.workers g.hand (set g.hand (cell_of w k) (Some given)) w (takes k given ((view g).leader w))
        (ap (leader_of (worker_of g w)) (set_own g.hand (length g.workers) w fit.sized.hands low k (Some given) ok))
        (set_away g.hand (length g.workers) w fit.sized.hands low k (Some given) ok))
        (λ u. refl) (λ u. refl) (bares_append g.messages (Proposed w (worker_of g w).seat (worker_of g w).epoch (worker_of g w).claim k given ∷ [])) refl refl refl
    propose_done_lem w k given low ok (Some m) e =
        state_path (view (with_hand (set g.hand (cell_of w k) (Some m)) (sending (Proposed w (worker_of g w).seat (worker_of g w).epoch (worker_of g w).claim k m) g))) (proposes w k given (Some m) (view g)) refl refl
        (λ u. row_cells leader_of g.workers g.hand (set g.hand (cell_of w k) (Some m)) w ((view g).leader w)
        (ap (leader_of (worker_of g w)) (set_own g.hand (length g.workers) w fit.sized.hands low k (Some m) ok ∙ fun_ext (put_noop (cell g.hand w) k (Some m) e)))
        (set_away g.hand (length g.workers) w fit.sized.hands low k (Some m) ok) u ∙ put_noop (view g).leader w ((view g).leader w) refl u)
        (λ u. refl) (λ u. refl) (bares_append g.messages (Proposed w (worker_of g w).seat (worker_of g w).epoch (worker_of g w).claim k m ∷ [])) refl refl refl

    carry_done_lem : (w k : ℕ) → w < length g.workers → in_book k ≡ true → (o : Option L) → view (carry_by o w k g) ≡ carrying w k o (view g)
    carry_done_lem w k low ok None = refl
    carry_done_lem w k low ok (Some l) = by_leader (entering (carry k l) g) w (carry_worker k (worker_of g w)) g.hand (carries k ((view g).leader w)) low
        (leader_path (leader_of (carry_worker k (worker_of g w)) (cell g.hand w)) (carries k ((view g).leader w)) (add-one (worker_of g w).mark) refl refl refl refl refl refl refl (fun_ext (marked_or (worker_of g w).carried k ok)))
        (λ u apart. refl) refl refl

    seated_away : (x : Worker) (e w : ℕ) → w < length g.workers → (u : ℕ) → (u ≡ w → ⊥) → cell (seated_cells x e w g.accepted) u ≡ cell g.accepted u
    seated_away x e w low u apart = cond_both (ltb x.sits e) (cleared 0 w 64 g.accepted) g.accepted (λ t. cell t u ≡ cell g.accepted u) (λ h. clear_away g.accepted (length g.workers) w fit.sized.accepteds low 0 u apart) (λ h. refl)

    pub seated_length : (x : Worker) (e w : ℕ) → w < length g.workers → length (seated_cells x e w g.accepted) ≡ 64 * length g.workers
    seated_length x e w low = cond_both (ltb x.sits e) (cleared 0 w 64 g.accepted) g.accepted (λ t. length t ≡ 64 * length g.workers) (λ h. clear-length g.accepted (length g.workers) w fit.sized.accepteds low 0) (λ h. fit.sized.accepteds)

    deliver_done_lem : (w : ℕ) → w < length g.workers → (o : Option (Message L)) → ((y : Message L) → o ≡ Some y → MsgLine y) → view (deliver_by o (worker_of g w) w g) ≡ delivers w (bare_of o) (view g)
    deliver_done_lem w low None line = refl
    deliver_done_lem w low (Some (Prepared from to e c)) line =
        let t : List (Option L) = seated_cells (worker_of g w) e w g.accepted in
        let cs = seated_cells_lem (worker_of g w) e w (length g.workers) g.accepted fit.sized.accepteds low in
        by_seated g w e c t (g.messages ++ Promised w from e c (lines_in w 64 t) ∷ reports w from e c 64 t) (sits e c ((view g).seated w))
        (promise from e c (tally (λ k. is_some ((sits e c ((view g).seated w)).cells k)) 64) ∷ report_all from e c (sits e c ((view g).seated w)).cells 64) low
        (ap (λ f. record { s = e; p = c; cells = f }) cs) (seated_away (worker_of g w) e w low)
        (bares_append g.messages (Promised w from e c (lines_in w 64 t) ∷ reports w from e c 64 t)
        ∙ ap (λ q. bares g.messages ++ q) (ap₂ (λ n q. promise from e c n ∷ q)
        (lines_same w t 64 (omega arith) ∙ ap (λ f. tally (λ k. is_some (f k)) 64) cs) (reports_same w from e c t 64 (omega arith) ∙ ap (λ f. report_all from e c f 64) cs)))
    deliver_done_lem w low (Some (Proposed from to e c k l)) line =
        let ok : in_book k ≡ true = line (Proposed from to e c k l) refl in
        let t : List (Option L) = seated_cells (worker_of g w) e w g.accepted in
        let len = seated_length (worker_of g w) e w low in
        let cs = seated_cells_lem (worker_of g w) e w (length g.workers) g.accepted fit.sized.accepteds low in
        ap (λ q. view (with_worker w (seated_worker (worker_of g w) e c) (with_accepted q (sending (Learned w k l) g)))) (cond-true (in_book k) (set t (cell_of w k) (Some l)) t ok)
        ∙ by_seated g w e c (set t (cell_of w k) (Some l)) (g.messages ++ Learned w k l ∷ []) (accepts k l (sits e c ((view g).seated w))) (learn k l ∷ []) low
        (ap (λ f. record { s = e; p = c; cells = f }) (set_own t (length g.workers) w len low k (Some l) ok ∙ ap (λ f. put f k (Some l)) cs))
        (λ u apart. set_away t (length g.workers) w len low k (Some l) ok u apart ∙ seated_away (worker_of g w) e w low u apart)
        (bares_append g.messages (Learned w k l ∷ []))
    deliver_done_lem w low (Some (Promised from to e c n)) line = by_leader g w (counted_worker (worker_of g w) n) g.hand (settle (counts n ((view g).leader w))) low
        (leader_path (leader_of (counted_worker (worker_of g w) n) (cell g.hand w)) (settle (counts n ((view g).leader w))) refl refl refl refl
        (ap (eqb n) (ones_marked (worker_of g w).reported (each_get_d Masked g.workers w blank (omega arith) fit.masks))) refl refl refl refl)
        (λ u apart. refl) refl refl
    deliver_done_lem w low (Some (Reported from to e c k l)) line =
        let ok : in_book k ≡ true = line (Reported from to e c k l) refl in
        let m = (worker_of g w).reported in
        let more : marked (bit_or (worker_of g w).reported (bit_of k)) ≡ put (marked (worker_of g w).reported) k true = fun_ext (marked_or (worker_of g w).reported k ok) in
        ap (λ q. view (with_worker w (reported_worker (worker_of g w) k) (with_hand q g))) (cond-true (in_book k) (set g.hand (cell_of w k) (Some l)) g.hand ok)
        ∙ by_leader g w (reported_worker (worker_of g w) k) (set g.hand (cell_of w k) (Some l)) (settle (reports-to k l ((view g).leader w))) low
        (leader_path (leader_of (reported_worker (worker_of g w) k) (cell (set g.hand (cell_of w k) (Some l)) w)) (settle (reports-to k l ((view g).leader w))) refl refl refl refl
        (ap (λ n. option_eq eqb (worker_of g w).count (Some n))
        (ones_marked (bit_or (worker_of g w).reported (bit_of k)) (or_fits (worker_of g w).reported k (each_get_d Masked g.workers w blank (omega arith) fit.masks)) ∙ ap (λ f. tally f 64) more))
        refl more (set_own g.hand (length g.workers) w fit.sized.hands low k (Some l) ok) refl)
        (set_away g.hand (length g.workers) w fit.sized.hands low k (Some l) ok) refl refl
    deliver_done_lem w low (Some (Learned from k l)) line =
        let ok : in_book k ≡ true = line (Learned from k l) refl in
        let o : Option L = fills (cell_at g.learned w k) l in
        let same : o ≡ fills-in (cell g.learned w k) l = fills_same (cell_at g.learned w k) l ∙ ap (λ q. fills-in q l) (sym (cond-true (in_book k) (cell_at g.learned w k) None ok)) in
        ap (λ q. view (with_learned q g)) (cond-true (in_book k) (set g.learned (cell_of w k) o) g.learned ok)
        ∙ ap (λ h. with_held h (view g)) (fun_ext (λ u. put_both (λ q. cell (set g.learned (cell_of w k) o) u ≡ q) (cell g.learned) w (put (cell g.learned w) k (fills-in (cell g.learned w k) l)) u
        (λ here. ap (cell (set g.learned (cell_of w k) o)) here ∙ set_own g.learned (length g.workers) w fit.sized.learneds low k o ok ∙ ap (λ q. put (cell g.learned w) k q) same)
        (λ apart. set_away g.learned (length g.workers) w fit.sized.learneds low k o ok u apart)))

    pub entry_line : (i : ℕ) (y : Entry L) → nth g.roster.entries i ≡ Some y → EntryLine y
    entry_line i y h = each_nth EntryLine g.roster.entries i y fit.elines h

    pub message_line : (i : ℕ) (y : Message L) → item_at g.messages i ≡ Some y → MsgLine y
    message_line i y h = each_nth MsgLine g.messages i y fit.mlines (sym (item_nth g.messages i) ∙ h)

    pub done : (s : Step L) → Passed (asks s (view g)) → view (step_done s g) ≡ does s (view g)
    done (Found a) p = refl
    done (Read w) p =
        ap (λ q. view (read_by q w g)) (read_is g.roster (worker_of g w).mark ∙ cond-true (readable g.roster) (ok_or (nth g.roster.entries (worker_of g w).mark)) (Err Shut) p.1.0)
        ∙ read_done_lem w (ltb-true w (length g.workers) p.0) (nth g.roster.entries (worker_of g w).mark) (entry_line (worker_of g w).mark)
    done (Lead w) p =
        let low = ltb-true w (length g.workers) p.0 in
        by_leader (entering (lead w) g) w (lead_worker (worker_of g w)) (cleared (worker_of g w).carried w 64 g.hand) (leads ((view g).leader w)) low
        (leader_path (leader_of (lead_worker (worker_of g w)) (cell (cleared (worker_of g w).carried w 64 g.hand) w)) (leads ((view g).leader w)) (add-one (worker_of g w).mark) refl refl (add-one (worker_of g w).mark) refl refl refl
        (clear_own g.hand (length g.workers) w fit.sized.hands low (worker_of g w).carried) refl)
        (λ u apart. clear_away g.hand (length g.workers) w fit.sized.hands low (worker_of g w).carried u apart) refl refl
    done (Prepare w) p = ap (λ q. with_msgs q (view g)) (bares_append g.messages (Prepared w (worker_of g w).seat (worker_of g w).epoch (worker_of g w).claim ∷ []))
    done (Propose w k l) p =
        let e : cell g.hand w k ≡ cell_at g.hand w k = cond-true (in_book k) (cell_at g.hand w k) None p.1.0 in
        propose_done_lem w k l (ltb-true w (length g.workers) p.0) p.1.0 (cell_at g.hand w k) e ∙ ap (λ o. proposes w k l o (view g)) (sym e)
    done (Carry w k) p =
        let e : cell g.hand w k ≡ cell_at g.hand w k = cond-true (in_book k) (cell_at g.hand w k) None p.1.0 in
        carry_done_lem w k (ltb-true w (length g.workers) p.0) p.1.0 (cell_at g.hand w k) ∙ ap (λ o. carrying w k o (view g)) (sym e)
    done (Reseat w b) p =
        let low = ltb-true w (length g.workers) (and_parts (ltb w (length g.workers)) (ltb b (length g.workers)) p.0).0 in
        by_leader (entering (seat b) g) w (read_worker {L = L} (seat b) (worker_of g w)) g.hand (read_seat b ((view g).leader w)) low
        (leader_path (leader_of (read_worker {L = L} (seat b) (worker_of g w)) (cell g.hand w)) (read_seat b ((view g).leader w)) (add-one (worker_of g w).mark) (add-one (worker_of g w).mark) refl refl refl refl refl refl refl) (λ u apart. refl) refl refl
    done (Deliver m w) p = deliver_done_lem w (ltb-true w (length g.workers) p.0) (item_at g.messages m) (message_line m) ∙ ap (λ o. delivers w o (view g)) (bares_item g.messages m)
    done (Lose m) p = ap (λ q. with_msgs q (view g)) (lose_same (item_at g.messages (length g.messages - 1)) m g.messages
        ∙ ap (lose_at m (bares g.messages)) (bares_item g.messages (length g.messages - 1) ∙ ap (λ n. nth (bares g.messages) (n - 1)) (sym (bares_length g.messages))))

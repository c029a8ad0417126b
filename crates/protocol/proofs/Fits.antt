-- What keeps the lists in shape, every step keeps.
use Rattle.std.proofs.Common.{◌≡◌, ℕ, zero, suc, ◌+◌, ◌-◌, ◌*◌, ◌<◌, ◌≤◌, true, List, [], ◌∷◌, ◌++◌, length, get_or, set, Some, None, Err, Option, sym, refl, ◌∙◌, subst, arith, length-set}
use Rattle.std.proofs.lemmas.Bool.{and_from, le-leb, lt-ltb, cond-true, cond_both, ltb-true}
use Rattle.roster.specs.declared.entry.Entry.{Entry}
use Rattle.roster.specs.declared.entry.Entry.TheVariants.{Lead as lead, Seat as seat, Carry as carry}
use Rattle.roster.specs.declared.fault.RosterFault.TheVariants.{Shut}
use Rattle.roster.specs.Model.{readable}
use Rattle.protocol.specs.declared.worker.Worker.{Worker}
use Rattle.protocol.specs.declared.message.Message.{Message}
use Rattle.protocol.specs.declared.message.Message.TheVariants.{Prepare as Prepared, Proposal as Proposed, Promise as Promised, Report as Reported, Learn as Learned}
use Rattle.protocol.specs.declared.step.Step.{Step}
use Rattle.protocol.specs.declared.step.Step.TheVariants.{Found, Read, Lead, Prepare, Propose, Carry, Reseat, Deliver, Lose}
use Rattle.protocol.proofs.Model.{nth, asks}
use Rattle.protocol.specs.Items.{item_at}
use Rattle.protocol.specs.Lines.{in_book, cell_of}
use Rattle.protocol.specs.Sizes.{Sized}
use Rattle.protocol.specs.Store.{Store, blank, worker_of, cell_at, lines_in, reports, seated_cells, cleared, step_done, with_worker, with_hand, with_accepted, with_learned, with_messages, entering, sending, read_worker, read_by, lead_worker, line_sent, carry_worker, carry_by, seated_worker, counted_worker, reported_worker, deliver_by, fills, lose_by, put_cell}
use Rattle.protocol.proofs.Cells.{or_fits, clear-length}
use Rattle.protocol.proofs.Sound.{Each, Passed, each_append, each_set, each_take}
use Rattle.protocol.proofs.Dones.{seated_length, message_line, entry_line}
use Rattle.protocol.proofs.Numbers.{ok_or, read_is}
use Rattle.protocol.proofs.View.{view, Fit, Masked, MsgLine, EntryLine, each_get_d}

module _ {L : Type 0} where
  fit_worker : (g : Store L) → Fit g → (w : ℕ) (x : Worker) → Masked x → Fit (with_worker w x g)
  fit_worker g fit w x m = record {
    sized = subst (λ n. Sized n (length g.hand) (length g.accepted) (length g.learned) g.places) (sym (length-set g.workers w x)) fit.sized;
    masks = each_set Masked g.workers w x fit.masks m;
    mlines = fit.mlines;
    elines = fit.elines;
  }

  fit-hand : (g : Store L) → Fit g → (t : List (Option L)) → length t ≡ 64 * length g.workers → Fit (with_hand t g)
  fit-hand g fit t e = let s = fit.sized in record {
    sized = record { few = s.few; many = s.many; hands = e; accepteds = s.accepteds; learneds = s.learneds; least = s.least; most = s.most };
    masks = fit.masks;
    mlines = fit.mlines;
    elines = fit.elines;
  }

  fit-accepted : (g : Store L) → Fit g → (t : List (Option L)) → length t ≡ 64 * length g.workers → Fit (with_accepted t g)
  fit-accepted g fit t e = let s = fit.sized in record {
    sized = record { few = s.few; many = s.many; hands = s.hands; accepteds = e; learneds = s.learneds; least = s.least; most = s.most };
    masks = fit.masks;
    mlines = fit.mlines;
    elines = fit.elines;
  }

  fit-learned : (g : Store L) → Fit g → (t : List (Option L)) → length t ≡ 64 * length g.workers → Fit (with_learned t g)
  fit-learned g fit t e = let s = fit.sized in record {
    sized = record { few = s.few; many = s.many; hands = s.hands; accepteds = s.accepteds; learneds = e; least = s.least; most = s.most };
    masks = fit.masks;
    mlines = fit.mlines;
    elines = fit.elines;
  }

  fit-messages : (g : Store L) → Fit g → (ms : List (Message L)) → Each MsgLine ms → Fit (with_messages ms g)
  fit-messages g fit ms e = record { sized = fit.sized; masks = fit.masks; mlines = e; elines = fit.elines }

  fit_sent : (g : Store L) → Fit g → (m : Message L) → MsgLine m → Fit (sending m g)
  fit_sent g fit m e = fit-messages g fit (g.messages ++ m ∷ []) (each_append MsgLine g.messages (m ∷ []) fit.mlines (e, tt))

  fit_entry : (g : Store L) → Fit g → (x : Entry L) → EntryLine x → Fit (entering x g)
  fit_entry g fit x e = record { sized = fit.sized; masks = fit.masks; mlines = fit.mlines; elines = each_append EntryLine g.roster.entries (x ∷ []) fit.elines (e, tt) }

  mask_of : (g : Store L) → Fit g → (w : ℕ) → Masked (worker_of g w)
  mask_of g fit w = each_get_d Masked g.workers w blank (omega arith) fit.masks

  set_long : (g : Store L) (t : List (Option L)) (i : ℕ) (o : Option L) → length t ≡ 64 * length g.workers → length (set t i o) ≡ 64 * length g.workers
  set_long g t i o e = length-set t i o ∙ e

  put_long : (g : Store L) (t : List (Option L)) (w k : ℕ) (o : Option L) → length t ≡ 64 * length g.workers → length (put_cell w k o t) ≡ 64 * length g.workers
  put_long g t w k o e = cond_both (in_book k) (set t (cell_of w k) o) t (λ q. length q ≡ 64 * length g.workers) (λ h. set_long g t (cell_of w k) o e) (λ h. e)

  report_line : (w to e c n : ℕ) → n < 64 → (o : Option L) → Each MsgLine (Rattle.protocol.specs.Store.report_of w to e c (n + 1) o)
  report_line w to e c n h None = tt
  report_line w to e c n h (Some l) = (and_from _ _ (lt-ltb 0 (n + 1) (omega arith)) (le-leb (n + 1) 64 (omega arith)), tt)

  report_lines : (w to e c : ℕ) (t : List (Option L)) (n : ℕ) → n ≤ 64 → Each MsgLine (reports w to e c n t)
  unfolding reports
  report_lines w to e c t zero h = tt
  report_lines w to e c t (suc n) h = each_append MsgLine (reports w to e c n t) (Rattle.protocol.specs.Store.report_of w to e c (n + 1) (get_or t (64 * w + n) None)) (report_lines w to e c t n (omega arith)) (report_line w to e c n (omega arith) (get_or t (64 * w + n) None))

  module _ (g : Store L) (fit : Fit g) where
    read_fit : (w : ℕ) → (o : Option (Entry L)) → ((y : Entry L) → o ≡ Some y → EntryLine y) → Fit (read_by (ok_or o) w g)
    read_fit w None line = fit
    read_fit w (Some (lead u)) line = fit_worker g fit w (read_worker {L = L} (lead u) (worker_of g w)) (mask_of g fit w)
    read_fit w (Some (seat a)) line = fit_worker g fit w (read_worker {L = L} (seat a) (worker_of g w)) (mask_of g fit w)
    read_fit w (Some (carry k l)) line = fit_worker (with_hand (Rattle.protocol.specs.Store.carried_in (carry k l) w g.hand) g)
        (fit-hand g fit (Rattle.protocol.specs.Store.carried_in (carry k l) w g.hand) (cond_both (in_book k) (set g.hand (cell_of w k) (Some l)) g.hand (λ t. length t ≡ 64 * length g.workers) (λ h. set_long g g.hand (cell_of w k) (Some l) fit.sized.hands) (λ h. fit.sized.hands)))
        w (read_worker (carry k l) (worker_of g w)) (mask_of g fit w)

    carry_fit : (w k : ℕ) → in_book k ≡ true → (o : Option L) → Fit (carry_by o w k g)
    carry_fit w k ok None = fit
    carry_fit w k ok (Some l) = fit_worker (entering (carry k l) g) (fit_entry g fit (carry k l) ok) w (carry_worker k (worker_of g w)) (mask_of g fit w)

    deliver_fit : (w : ℕ) → w < length g.workers → (o : Option (Message L)) → ((y : Message L) → o ≡ Some y → MsgLine y) → Fit (deliver_by o (worker_of g w) w g)
    deliver_fit w low None line = fit
    deliver_fit w low (Some (Prepared from to e c)) line =
        let t : List (Option L) = seated_cells (worker_of g w) e w g.accepted in
        let ms : List (Message L) = g.messages ++ Promised w from e c (lines_in w 64 t) ∷ reports w from e c 64 t in
        let a : Fit (with_messages ms g) = fit-messages g fit ms (each_append MsgLine g.messages (Promised w from e c (lines_in w 64 t) ∷ reports w from e c 64 t) fit.mlines (tt, report_lines w from e c t 64 (omega arith))) in
        fit_worker (with_accepted t (with_messages ms g)) (fit-accepted (with_messages ms g) a t (seated_length g fit (worker_of g w) e w low)) w (seated_worker (worker_of g w) e c) (mask_of g fit w)
    deliver_fit w low (Some (Proposed from to e c k l)) line =
        let ok : in_book k ≡ true = line (Proposed from to e c k l) refl in
        let t : List (Option L) = put_cell w k (Some l) (seated_cells (worker_of g w) e w g.accepted) in
        fit_worker (with_accepted t (sending (Learned w k l) g)) (fit-accepted (sending (Learned w k l) g) (fit_sent g fit (Learned w k l) ok) t (put_long g (seated_cells (worker_of g w) e w g.accepted) w k (Some l) (seated_length g fit (worker_of g w) e w low))) w (seated_worker (worker_of g w) e c) (mask_of g fit w)
    deliver_fit w low (Some (Promised from to e c n)) line = fit_worker g fit w (counted_worker (worker_of g w) n) (mask_of g fit w)
    deliver_fit w low (Some (Reported from to e c k l)) line = fit_worker (with_hand (put_cell w k (Some l) g.hand) g) (fit-hand g fit (put_cell w k (Some l) g.hand) (put_long g g.hand w k (Some l) fit.sized.hands)) w (reported_worker (worker_of g w) k) (or_fits (worker_of g w).reported k (mask_of g fit w))
    deliver_fit w low (Some (Learned from k l)) line = fit-learned g fit (put_cell w k (fills (cell_at g.learned w k) l) g.learned) (put_long g g.learned w k (fills (cell_at g.learned w k) l) fit.sized.learneds)

    lose_fit : (o : Option (Message L)) (m : ℕ) → ((y : Message L) → o ≡ Some y → MsgLine y) → Each MsgLine (lose_by o m g.messages)
    lose_fit None m line = fit.mlines
    lose_fit (Some x) m line = each_take MsgLine (length g.messages - 1) (set g.messages m x) (each_set MsgLine g.messages m x fit.mlines (line x refl))

    pub fits : (s : Step L) → Passed (asks s (view g)) → Fit (step_done s g)
    fits (Found a) p = fit_entry g fit (seat a) tt
    fits (Read w) p = subst (λ q. Fit (read_by q w g)) (sym (read_is g.roster (worker_of g w).mark ∙ cond-true (readable g.roster) (ok_or (nth g.roster.entries (worker_of g w).mark)) (Err Shut) p.1.0))
        (read_fit w (nth g.roster.entries (worker_of g w).mark) (entry_line g fit (worker_of g w).mark))
    fits (Lead w) p =
        let t : List (Option L) = cleared (worker_of g w).carried w 64 g.hand in
        fit_worker (with_hand t (entering (lead w) g)) (fit-hand (entering (lead w) g) (fit_entry g fit (lead w) tt) t (clear-length g.hand (length g.workers) w fit.sized.hands (ltb-true w (length g.workers) p.0) (worker_of g w).carried)) w (lead_worker (worker_of g w)) (omega arith)
    fits (Prepare w) p = fit_sent g fit (Prepared w (worker_of g w).seat (worker_of g w).epoch (worker_of g w).claim) tt
    fits (Propose w k l) p =
        let m : Message L = Proposed w (worker_of g w).seat (worker_of g w).epoch (worker_of g w).claim k (line_sent (cell_at g.hand w k) l) in
        fit-hand (sending m g) (fit_sent g fit m p.1.0) (set g.hand (cell_of w k) (Some (line_sent (cell_at g.hand w k) l))) (set_long g g.hand (cell_of w k) (Some (line_sent (cell_at g.hand w k) l)) fit.sized.hands)
    fits (Carry w k) p = carry_fit w k p.1.0 (cell_at g.hand w k)
    fits (Reseat w b) p = fit_worker (entering (seat b) g) (fit_entry g fit (seat b) tt) w (read_worker {L = L} (seat b) (worker_of g w)) (mask_of g fit w)
    fits (Deliver m w) p = deliver_fit w (ltb-true w (length g.workers) p.0) (item_at g.messages m) (message_line g fit m)
    fits (Lose m) p = fit-messages g fit (lose_by (item_at g.messages (length g.messages - 1)) m g.messages) (lose_fit (item_at g.messages (length g.messages - 1)) m (message_line g fit (length g.messages - 1)))

-- A run of the store is a run of the state, and so what holds of those holds of these.
use Rattle.std.proofs.Common.{◌≡◌, ℕ, zero, suc, ◌+◌, ◌-◌, ◌*◌, ◌≤◌, Bool, true, false, cond, ltb, List, [], ◌∷◌, length, get_or, replicate, is_ok, Some, None, Ok, Err, Option, Result, sym, refl, ap, ◌∙◌, subst, ap₂, arith, is_some}
use mathlib.Core.Path.{fun_ext}
use lib.ListN.{length-replicate}
use Rattle.std.proofs.lemmas.Bool.{cond_both, cond-true}
use Rattle.protocol.specs.declared.message.Message.{Message}
use Rattle.protocol.specs.declared.message.Message.TheVariants.{Prepare as Prepared, Proposal as Proposed, Promise as Promising, Report as Reported, Learn as Learned}
use Rattle.protocol.specs.declared.fault.StepFault.{StepFault}
use Rattle.protocol.specs.declared.fault.StepFault.TheVariants.{NoWorker, NoLine, NotReady, NotTaken, NoRoom}
use Rattle.protocol.specs.declared.step.Answer.{Answer}
use Rattle.protocol.specs.declared.step.Answer.TheVariants.{Done, Held}
use Rattle.protocol.specs.declared.step.Step.{Step}
use Rattle.protocol.specs.declared.step.Step.TheVariants.{Found, Read, Lead, Prepare, Propose, Carry, Reseat, Deliver, Lose}
use Rattle.protocol.proofs.Model.{Said, refusal, asks, does, answer, made, note, mark, accepted_by, either_way, finish, after as after-state, Run as StateRun, Clear as StateClear, Way as StateWay}
use Rattle.protocol.proofs.Model.Said.{Ok as Okay, Held as Kept, No}
use Rattle.protocol.proofs.Model.Run.{start as start-state, next as next-state, owner as owner-state}
use Rattle.roster.specs.Model.{RosterState}
use Rattle.protocol.specs.Faults.{number}
use Rattle.protocol.specs.Items.{item_at}
use Rattle.protocol.specs.Lines.{in_book}
use Rattle.protocol.specs.Sizes.{Sized}
use Rattle.protocol.specs.Store.{Store, made_in, blank, worker_of, settled, after, plainly, cell_at, sent_as, may_propose, room_for, step_result, step_done, step_after}
use Rattle.protocol.specs.Runs.{History, Run, Event, Way, Clear, proposes, accepts, accepts_of, fresh, holds, happen, plays}
use Rattle.protocol.specs.Runs.Run.{start, next, owner}
use Rattle.protocol.specs.Runs.Event.{steps, opens}
use Rattle.protocol.proofs.Cells.{cell}
use Rattle.protocol.proofs.View.{view, bare_of, bares_item, bares_length, leader_of, seated_of, Fit, Masked, state_path}
use Rattle.protocol.proofs.Sound.{Each, passed}
use Rattle.protocol.proofs.Tools.{none_not_some, some_same}
use Rattle.protocol.proofs.Numbers.{is_made, refused, numbered, asked_then}
use Rattle.protocol.proofs.Dones.{done}
use Rattle.protocol.proofs.Fits.{fits}
use Rattle.protocol.proofs.Safe.{agreement}

-- an answer of the store as the state's
abbrev answer_of : Result Answer StepFault → Said
answer_of (Ok Done) = Okay
answer_of (Ok Held) = Kept
answer_of (Err f) = No (number f)

chosen : {X : Type 0} {S : Type 0} (see : X → S) (r : Result Answer StepFault) (o : Option ℕ) (new old : X) (dn : S) → refused r ≡ o → (o ≡ None → see new ≡ dn) → see (settled r new old) ≡ either_way o (λ i. see old) dn
chosen see (Ok x) None new old dn e h = h refl
chosen see (Ok x) (Some i) new old dn e h = absurd (none_not_some refl e)
chosen see (Err f) None new old dn e h = absurd (none_not_some e refl)
chosen see (Err f) (Some i) new old dn e h = refl

kept : {X : Type 0} (Φ : X → Type 0) (r : Result Answer StepFault) (o : Option ℕ) (new old : X) → refused r ≡ o → (o ≡ None → Φ new) → Φ old → Φ (settled r new old)
kept Φ (Ok x) None new old e h k = h refl
kept Φ (Ok x) (Some i) new old e h k = absurd (none_not_some refl e)
kept Φ (Err f) o new old e h k = k

plain_answer : (r : Result Unit StepFault) (o : Option ℕ) → refused (plainly r) ≡ o → answer_of (plainly r) ≡ either_way o No Okay
plain_answer (Ok x) None e = refl
plain_answer (Ok x) (Some i) e = absurd (none_not_some refl e)
plain_answer (Err f) None e = absurd (none_not_some e refl)
plain_answer (Err f) (Some i) e = ap No (some_same refl e)

ok_of : (r : Result Answer StepFault) → refused r ≡ None → is_ok r ≡ true
ok_of (Ok x) e = refl
ok_of (Err f) e = absurd (none_not_some e refl)

-- what a Propose answers
sent_qs : {L : Type 0} (b k c t m : Bool) (o : Option L)
    → answer_of (cond b (after {X = Unit {0}} (cond k (cond c (cond t (cond m (Ok tt) (Err NoRoom)) (Err NotTaken)) (Err NotReady)) (Err NoLine)) (λ _. Ok (sent_as o))) (Err NoWorker))
    ≡ either_way (refusal ((b, 2) ∷ (k, 3) ∷ (c, 6) ∷ (t, 7) ∷ (m, 11) ∷ [])) No (cond (is_some (cond k o None)) Kept Okay)
sent_qs false k c t m o = refl
sent_qs true false c t m o = refl
sent_qs true true false t m o = refl
sent_qs true true true false m o = refl
sent_qs true true true true false o = refl
sent_qs true true true true true None = refl
sent_qs true true true true true (Some l) = refl

replicated : {X : Type 0} (n i : ℕ) (x : X) → get_or (replicate n x) i x ≡ x
replicated zero i x = refl
replicated (suc n) zero x = refl
replicated (suc n) (suc i) x = replicated n i x

each_replicate : {X : Type 0} (Φ : X → Type 0) (n : ℕ) (x : X) → Φ x → Each Φ (replicate n x)
each_replicate Φ zero x h = tt
each_replicate Φ (suc n) x h = (h, each_replicate Φ n x h)

abbrev none : (X : Type 0) → Option X
none X = None

no_cell : (X : Type 0) (n w : ℕ) → cell (replicate n (none X)) w ≡ (λ k. None)
no_cell X n w = fun_ext (λ k. cond_both (in_book k) (cell_at (replicate n (none X)) w k) None (λ o. o ≡ None) (λ h. replicated n (64 * w + (k - 1)) None) (λ h. refl))

module _ {L : Type 0} where
  module _ (g : Store L) (fit : Fit g) where
    -- the store and the state go on together
    pub together : (s : Step L) → view (step_after s g) ≡ after-state s (view g)
    together s = chosen view (step_result s g) (refusal (asks s (view g))) (step_done s g) g (does s (view g)) (numbered g fit s) (λ e. done g fit s (passed (asks s (view g)) e))

    pub still_fit : (s : Step L) → Fit (step_after s g)
    still_fit s = kept Fit (step_result s g) (refusal (asks s (view g))) (step_done s g) g (numbered g fit s) (λ e. fits g fit s (passed (asks s (view g)) e)) fit

    same_answer : (s : Step L) → answer_of (step_result s g) ≡ answer s (view g)
    same_answer (Found a) = plain_answer _ (refusal (asks (Found a) (view g))) (numbered g fit (Found a))
    same_answer (Read w) = plain_answer _ (refusal (asks (Read w) (view g))) (numbered g fit (Read w))
    same_answer (Lead w) = plain_answer _ (refusal (asks (Lead w) (view g))) (numbered g fit (Lead w))
    same_answer (Prepare w) = plain_answer _ (refusal (asks (Prepare w) (view g))) (numbered g fit (Prepare w))
    same_answer (Propose w k l) = ap answer_of (asked_then g fit w (λ x. after (may_propose x k (room_for g)) (λ _. Ok (sent_as (cell_at g.hand w k)))))
        ∙ sent_qs (ltb w (length g.workers)) (in_book k) (ltb 0 (worker_of g w).claim) (worker_of g w).taken (room_for g) (cell_at g.hand w k)
        ∙ ap (λ n. either_way (refusal ((ltb w (length g.workers), 2) ∷ (in_book k, 3) ∷ (ltb 0 (worker_of g w).claim, 6) ∷ ((worker_of g w).taken, 7) ∷ (ltb n g.places, 11) ∷ [])) No (cond (is_some (cell g.hand w k)) Kept Okay)) (sym (bares_length g.messages))
    same_answer (Carry w k) = plain_answer _ (refusal (asks (Carry w k) (view g))) (numbered g fit (Carry w k))
    same_answer (Reseat w b) = plain_answer _ (refusal (asks (Reseat w b) (view g))) (numbered g fit (Reseat w b))
    same_answer (Deliver m w) = plain_answer _ (refusal (asks (Deliver m w) (view g))) (numbered g fit (Deliver m w))
    same_answer (Lose m) = plain_answer _ (refusal (asks (Lose m) (view g))) (numbered g fit (Lose m))

  -- what is noted
  same_note : (s : Step L) (r : Result Answer StepFault) (ps : List (ℕ × L)) → proposes s r ps ≡ note s (answer_of r) ps
  same_note (Propose w k l) (Ok Done) ps = refl
  same_note (Propose w k l) (Ok Held) ps = refl
  same_note (Propose w k l) (Err f) ps = refl
  same_note (Found a) r ps = refl
  same_note (Read w) r ps = refl
  same_note (Lead w) r ps = refl
  same_note (Prepare w) r ps = refl
  same_note (Carry w k) r ps = refl
  same_note (Reseat w b) r ps = refl
  same_note (Deliver m w) r ps = refl
  same_note (Lose m) r ps = refl

  accepts_of_lem : (o : Option (Message L)) (hs : List (ℕ × ℕ)) → accepts_of o hs ≡ accepted_by (bare_of o) hs
  accepts_of_lem None hs = refl
  accepts_of_lem (Some (Prepared from to e c)) hs = refl
  accepts_of_lem (Some (Proposed from to e c k l)) hs = refl
  accepts_of_lem (Some (Promising from to e c n)) hs = refl
  accepts_of_lem (Some (Reported from to e c k l)) hs = refl
  accepts_of_lem (Some (Learned from k l)) hs = refl

  same_mark : (s : Step L) (r : Result Answer StepFault) (g : Store L) (hs : List (ℕ × ℕ)) → accepts s r g hs ≡ mark s (view g) (answer_of r) hs
  same_mark (Deliver m w) (Ok Done) g hs = accepts_of_lem (item_at g.messages m) hs ∙ ap (λ o. accepted_by o hs) (bares_item g.messages m)
  same_mark (Deliver m w) (Ok Held) g hs = refl
  same_mark (Deliver m w) (Err f) g hs = refl
  same_mark (Propose w k l) r g hs = refl
  same_mark (Found a) r g hs = refl
  same_mark (Read w) r g hs = refl
  same_mark (Lead w) r g hs = refl
  same_mark (Prepare w) r g hs = refl
  same_mark (Carry w k) r g hs = refl
  same_mark (Reseat w b) r g hs = refl
  same_mark (Lose m) r g hs = refl

  fresh_view : (n room cap : ℕ) (t : RosterState) → view (fresh {L = L} n room cap t) ≡ made n room cap t.is_open
  fresh_view n room cap t = state_path (view (fresh {L = L} n room cap t)) (made n room cap t.is_open) (length-replicate n blank) refl
      (λ w. ap₂ leader_of (replicated n w blank) (no_cell L (64 * n) w)) (λ w. ap₂ seated_of (replicated n w blank) (no_cell L (64 * n) w)) (λ w. no_cell L (64 * n) w) refl refl refl refl

  fresh-fit : (n room cap : ℕ) (t : RosterState) → Sized n (64 * n) (64 * n) (64 * n) room → Fit (fresh {L = L} n room cap t)
  fresh-fit n room cap t s =
      let e : length (replicate n blank) ≡ n = length-replicate n blank in
      let d : length (replicate (64 * n) (none L)) ≡ 64 * n = length-replicate (64 * n) (none L) in
      record {
        sized = record { few = subst (λ i. 3 ≤ i) (sym e) s.few; many = subst (λ i. i ≤ 8) (sym e) s.many; hands = d ∙ ap (λ i. 64 * i) (sym e); accepteds = d ∙ ap (λ i. 64 * i) (sym e); learneds = d ∙ ap (λ i. 64 * i) (sym e); least = s.least; most = s.most };
        masks = each_replicate Masked n blank (omega arith);
        mlines = tt;
        elines = tt;
      }

  pub record Seen (g : Store L) (h : History L) : Type 0 where
    pub fit : Fit g
    pub run : StateRun L (view g) h.proposed h.accepted

  pub seen : {g : Store L} {h : History L} → Run L g h → Seen g h
  seen (start n room cap t s) = record { fit = fresh-fit n room cap t s; run = subst (λ q. StateRun L q [] []) (sym (fresh_view n room cap t)) (start-state n room cap t.is_open) }
  seen (next {g} {h} r s) =
      let z = seen r in
      let ans = same_answer g z.fit s in
      record {
        fit = still_fit g z.fit s;
        run = subst (λ q. StateRun L q (proposes s (step_result s g) h.proposed) (accepts s (step_result s g) g h.accepted)) (sym (together g z.fit s))
            (subst (λ q. StateRun L (after-state s (view g)) q (accepts s (step_result s g) g h.accepted)) (sym (same_note s (step_result s g) h.proposed ∙ ap (λ a. note s a h.proposed) ans))
            (subst (λ q. StateRun L (after-state s (view g)) (note s (answer s (view g)) h.proposed) q) (sym (same_mark s (step_result s g) g h.accepted ∙ ap (λ a. mark s (view g) a h.accepted) ans)) (next-state z.run s)));
      }
  seen (owner {g} {h} r t) = let z = seen r in record { fit = record { sized = z.fit.sized; masks = z.fit.masks; mlines = z.fit.mlines; elines = z.fit.elines }; run = owner-state z.run t.is_open }

  -- a worker of a made group holds what its learned cell has
  pub holds_is : (g : Store L) → Fit g → (w k : ℕ) → holds g w k ≡ (view g).held w k
  holds_is g fit w k = cond-true (made_in g) _ _ (is_made g fit)

  -- a held line stays, whatever the caller and the roster's owner do
  pub stays : (es : List (Event L)) {g : Store L} {h : History L} → Run L g h → (w k : ℕ) (l : L) → holds g w k ≡ Some l → holds (happen es g) w k ≡ Some l
  stays [] r w k l e = e
  stays (steps s ∷ es) {g} {h} r w k l e =
      let z = seen r in
      let here : (view g).held w k ≡ Some l = sym (holds_is g z.fit w k) ∙ e in
      stays es (next r s) w k l
      (holds_is (step_after s g) (still_fit g z.fit s) w k ∙ ap (λ q. q.held w k) (together g z.fit s) ∙ (agreement L (view g) h.proposed h.accepted z.run).stays s w k l here)
  stays (opens t ∷ es) r w k l e = stays es (owner r t) w k l e

  -- the same steps
  plays_view : (ss : List (Step L)) (g : Store L) → Fit g → view (plays ss g) ≡ finish (view g) ss
  plays_view [] g fit = refl
  plays_view (s ∷ ss) g fit = plays_view ss (step_after s g) (still_fit g fit s) ∙ ap (λ q. finish q ss) (together g fit s)

  plays-fit : (ss : List (Step L)) (g : Store L) → Fit g → Fit (plays ss g)
  plays-fit [] g fit = fit
  plays-fit (s ∷ ss) g fit = plays-fit ss (step_after s g) (still_fit g fit s)

  clear_view : (ss : List (Step L)) (g : Store L) → Fit g → StateClear (view g) ss → Clear g ss
  clear_view [] g fit c = tt
  clear_view (s ∷ ss) g fit c = (ok_of (step_result s g) (numbered g fit s ∙ c.0), clear_view ss (step_after s g) (still_fit g fit s) (subst (λ q. StateClear q ss) (sym (together g fit s)) c.1))

  pub way_view : (g : Store L) → Fit g → (w k : ℕ) (l : L) (i : ℕ) → StateWay (view g) w k l i → Way g w k l i
  way_view g fit w k l i y = record {
    steps = y.steps;
    long = y.long;
    clear = clear_view y.steps g fit y.clear;
    one = y.one;
    ends = (y.holds.0, holds_is (plays y.steps g) (plays-fit y.steps g fit) w k ∙ ap (λ q. q.held w k) (plays_view y.steps g fit) ∙ y.holds.1);
  }

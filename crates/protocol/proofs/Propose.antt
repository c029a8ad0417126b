-- A worker whose claim is taken up sends a Proposal.
use Rattle.std.proofs.Common.{◌≡◌, ℕ, suc, ◌<◌, ◌≤◌, true, ◌⊎◌, List, Some, Option, sym, refl, ap, ◌∙◌, subst, inl, inr, ⊎_elim, arith}
use Rattle.std.proofs.lemmas.Bool.{both_ways}
use Rattle.roster.specs.declared.entry.Entry.{Entry}
use Rattle.protocol.specs.Words.{At}
use Rattle.roster.specs.declared.entry.Entry.TheVariants.{Lead as lead, Seat as seat, Carry as carry}
use Rattle.protocol.proofs.Places.{at_high, lead_not_seat, lead_not_carry, same_lead, same_seat}
use Rattle.protocol.proofs.Inv.{Facts, Add, NoneSent, MsgOk, NoLead, Upto, HasPromised, NoLongerAccepts, Before, Global, Claim, LeaderOk, Valid, Quiet}
use Rattle.protocol.proofs.Msg.{Msg}
use Rattle.protocol.proofs.Msg.Msg.{prepare, proposal, promise, report, learn}
use Rattle.protocol.proofs.Roles.{Seated, Leader}
use Rattle.protocol.proofs.Tools.{add_case, side, under_trans, under_tie}

module _ {L : Type 0} {R : List (Entry L)} {P A : Facts L} {B : ℕ → Seated L} (g : Global R P A B)
    {w : ℕ} {v : Leader L} (ok : LeaderOk R P A B w v) (has : 0 < v.c) (tk : v.taken ≡ true)
    (k : ℕ) (l : L) (low : (0 < k) × (k ≤ 64)) (can : (m : L) → v.hand k ≡ Some m → m ≡ l) where
  cl : Claim R P A B w v
  cl = ok.claim has

  seated : At R v.e (seat v.a)
  seated = ok.seat_at cl.sits

  -- an entry that the worker has not read, and that is no Lead, stands behind another's Lead
  unread : {q : ℕ} {y : Entry L} → At R q y → Quiet y → v.r < q → (u : ℕ) × At R (suc v.r) (lead u) × (suc v.r < q)
  unread {q} {y} h qu lt =
      let n = cl.next (let z = at_high h in omega arith) in
      (n.0, n.1, ⊎_elim (λ z. z) (λ ge. absurd (not_here y qu h n.1 (omega arith))) (side (suc v.r) q))
    where
      not_here : (y : Entry L) → Quiet y → At R q y → {u : ℕ} → At R (suc v.r) (lead u) → q ≡ suc v.r → ⊥
      not_here (lead z) qu h n eq = qu
      not_here (seat z) qu h {u} n eq = lead_not_seat n (subst (λ i. At R i (seat z)) eq h)
      not_here (carry j m) qu h {u} n eq = lead_not_carry n (subst (λ i. At R i (carry j m)) eq h)

  valid_new : Valid R v.e v.c
  valid_new = record {
    led = w;
    lead_at = cl.mine;
    sat = v.a;
    seat_at = seated;
    native = λ lt q u h i at. cl.newest q u h (let z = ok.seat_read in omega arith) at;
  }

  beyond_new : {b y x : ℕ} → At R b (seat y) → v.e < b → At R v.e (seat x) → NoLongerAccepts B x v.e v.c
  beyond_new {b} {y} {x} h lt s = ⊎_elim
      (λ rb. let n = unread h tt rb in
      let z = g.seat_past s n.1 (let i = ok.seat_read in omega arith) ok.newest h tt n.2 in
      under_trans (under_tie v.e (let i = cl.read in omega arith)) z)
      (λ br. absurd (ok.newest b y lt (omega arith) h))
      (side v.r b)

  -- any Carry of the line that the worker has read
  read_new : {q : ℕ} {m : L} → At R q (carry k m) → q ≤ v.r → l ≡ m
  read_new h le = sym (can _ (ok.carries le h).1)

  own_new : {q : ℕ} {m : L} → At R q (carry k m) → v.c < q → NoLead R v.c q → l ≡ m
  own_new {q} h lt none = ⊎_elim
      (λ rq. let n = unread h tt rq in absurd (none (suc v.r) n.0 (let z = cl.read in omega arith) n.2 n.1))
      (read_new h)
      (side v.r q)

  pub propose_global : Global R (Add P v.e v.c k l) A B
  propose_global = record {
    valid = add_case {P = P} (λ e c k l. Valid R e c) (λ e c k l h. g.valid h) valid_new;
    ranged = add_case {P = P} (λ e c k l. (0 < k) × (k ≤ 64)) (λ e c k l h. g.ranged h) low;
    one = one_new;
    sent = λ h. inl (g.sent h);
    past = g.past;
    main = λ {e = e1} {c = c1} {f = f2} {d = d2} {k = j} {l = m1} {m = m2} h p le. add_case {P = P} (λ f d j m. (m1 : L) → A e1 c1 j m1 → Upto e1 c1 f d → m1 ≡ m) (λ f d j m p m1 h le. g.main h p le) (λ m1 h le. can m1 (cl.knows tk h le)) p m1 h le;
    carry_or = λ {b} {y} {e = e1} {c = c1} {k = j} {x} {l = m} s p lt at. add_case {P = P} (λ e c j m. e < b → At R e (seat x) → Before R b j m ⊎ NoLongerAccepts B x e c) (λ e c j m p lt at. g.carry_or s p lt at) (λ lt at. inr (beyond_new s lt at)) p lt at;
    carry_acc = g.carry_acc;
    under_seat = λ {q} {e = e1} {c = c1} {k = j} {l = m1} {m = m2} p at lt. add_case {P = P} (λ e c j m. (m2 : L) → At R q (carry j m2) → q < e → m ≡ m2) (λ e c j m p m2 at lt. g.under_seat p at lt) (λ m2 at lt. read_new at (let z = ok.seat_read in omega arith)) p m2 at lt;
    under_lead = λ {q} {e = e1} {c = c1} {k = j} {l = m1} {m = m2} p at lt. add_case {P = P} (λ e c j m. (m2 : L) → At R q (carry j m2) → q < c → m ≡ m2) (λ e c j m p m2 at lt. g.under_lead p at lt) (λ m2 at lt. read_new at (let z = cl.read in omega arith)) p m2 at lt;
    own_carry = λ {q} {e = e1} {c = c1} {k = j} {l = m1} {m = m2} p at lt none. add_case {P = P} (λ e c j m. (m2 : L) → At R q (carry j m2) → c < q → NoLead R c q → m ≡ m2) (λ e c j m p m2 at lt none. g.own_carry p at lt none) (λ m2 at lt none. own_new at lt none) p m2 at lt none;
    carry_one = g.carry_one;
    acc_carry = g.acc_carry;
    prop_past = λ {e = e1} {c = c1} {k = j} {x} {l = m} p lt at. add_case {P = P} (λ e c j m. e < c → At R e (seat x) → HasPromised B x e c) (λ e c j m p lt at. g.prop_past p lt at) (λ lt at. subst (λ z. HasPromised B z v.e v.c) (same_seat seated at) (cl.past tk lt)) p lt at;
    seat_past = g.seat_past;
  }
    where
      one_old : {e f c j : ℕ} {m n : L} → P e c j m → Add P v.e v.c k l f c j n → m ≡ n
      one_old p (inl q) = g.one p q
      one_old {e} {f} {c} {j} {m} {n} p (inr q) =
          can m (cl.proposed (subst (λ z. P e z k m) q.1 (subst (λ z. P e c z m) q.2 p))).1 ∙ sym q.3

      one_new : {e f c k₁ : ℕ} {l₁ m : L} → Add P v.e v.c k l e c k₁ l₁ → Add P v.e v.c k l f c k₁ m → l₁ ≡ m
      one_new (inl p) q = one_old p q
      one_new (inr p) (inl q) = sym (one_old q (inr p))
      one_new (inr p) (inr q) = p.3 ∙ sym q.3

  fewer : {e c : ℕ} → NoneSent (Add P v.e v.c k l) e c → NoneSent P e c
  fewer none j m h = none j m (inl h)

  pub propose_msg : (m : Msg L) → MsgOk R P A B m → MsgOk R (Add P v.e v.c k l) A B m
  propose_msg (prepare to from f d) h = h
  propose_msg (proposal to f d j m) h = (h.0, inl h.1)
  propose_msg (promise to f d n) h = (h.0, h.1, h.2, λ none. h.3 (fewer none), h.4)
  propose_msg (report to f d j m) h = h
  propose_msg (learn j m) h = h

  pub propose_sends : MsgOk R (Add P v.e v.c k l) A B (proposal v.a v.e v.c k l)
  propose_sends = (seated, inr (refl, refl, refl, refl))

  pub propose_others : {u : ℕ} {o : Leader L} → (w ≡ u → ⊥) → LeaderOk R P A B u o → LeaderOk R (Add P v.e v.c k l) A B u o
  propose_others {u} {o} apart k1 = record {
    fits = k1.fits;
    seat_read = k1.seat_read;
    seat_at = k1.seat_at;
    newest = k1.newest;
    marked = k1.marked;
    carries = k1.carries;
    idle = k1.idle;
    claim = λ h. let z = k1.claim h in record {
      mine = z.mine;
      read = z.read;
      sits = z.sits;
      newest = z.newest;
      next = z.next;
      moved = z.moved;
      knows = z.knows;
      proposed = λ p. ⊎_elim z.proposed (λ q. absurd (apart (same_lead cl.mine (subst (λ i. At R i (lead u)) q.1 z.mine)))) p;
      past = z.past;
      counted = λ t n. let y = z.counted t n in (y.0, λ none. y.1 (fewer none));
      told = z.told;
    };
  }

  pub propose_own : (hand : ℕ → Option L) → ((j : ℕ) (m : L) → v.hand j ≡ Some m → hand j ≡ Some m) → hand k ≡ Some l
      → LeaderOk R (Add P v.e v.c k l) A B w (record { r = v.r; e = v.e; a = v.a; c = v.c; taken = v.taken; count = v.count; reported = v.reported; hand = hand; carried = v.carried })
  propose_own hand more here = record {
    fits = ok.fits;
    seat_read = ok.seat_read;
    seat_at = ok.seat_at;
    newest = ok.newest;
    marked = ok.marked;
    carries = λ {q} {k = j} {l = m} le at. let z = ok.carries le at in (z.0, more j m z.1);
    idle = ok.idle;
    claim = λ h. record {
      mine = cl.mine;
      read = cl.read;
      sits = cl.sits;
      newest = cl.newest;
      next = cl.next;
      moved = cl.moved;
      knows = λ t a le. more _ _ (cl.knows t a le);
      proposed = λ {e} {k = j} {l = m} p. ⊎_elim (λ q. let z = cl.proposed q in (z.0, more j m z.1))
          (λ q. (tk, subst (λ z. hand z ≡ Some m) (sym q.2) (here ∙ ap Some (sym q.3)))) p;
      past = cl.past;
      counted = λ t n. absurd (both_ways v.taken t tk);
      told = λ t n. absurd (both_ways v.taken t tk);
    };
  }

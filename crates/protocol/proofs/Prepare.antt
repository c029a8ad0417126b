-- A Prepare comes to a seat: its promise grows, and it answers.
use Rattle.std.proofs.Common.{◌≡◌, ℕ, ◌≤◌, false, ltb, List, Some, None, sym, refl, subst, inl, inr, ⊎_elim, arith, is_some}
use Rattle.std.proofs.lemmas.Bool.{ltb-true, ltb-false, cond_both}
use Rattle.roster.specs.declared.entry.Entry.{Entry}
use Rattle.protocol.specs.Words.{At, tally}
use Rattle.roster.specs.declared.entry.Entry.TheVariants.{Seat as seat}
use Rattle.protocol.proofs.Inv.{Facts, Counts, SeatedOk, MsgOk, Upto, HasPromised, NoLongerAccepts, Global, LeaderOk}
use Rattle.protocol.proofs.Msg.{Msg}
use Rattle.protocol.proofs.Msg.Msg.{prepare, proposal, promise, report, learn}
use Rattle.protocol.proofs.Roles.{Seated, Leader, sits}
use Rattle.protocol.proofs.Tools.{none_not_some, upto_trans, under_trans, upto_tied, some_is, not_none}

-- the promises grow
module _ {L : Type 0} (B B' : ℕ → Seated L) (up : (y : ℕ) → Upto (B y).s (B y).p (B' y).s (B' y).p) where
  up_past : {y f d : ℕ} → HasPromised B y f d → HasPromised B' y f d
  up_past {y} h = upto_trans h (up y)

  up_beyond : {y f d : ℕ} → NoLongerAccepts B y f d → NoLongerAccepts B' y f d
  up_beyond {y} h = under_trans h (up y)

module _ {L : Type 0} {R : List (Entry L)} {P A : Facts L} {B : ℕ → Seated L} (B' : ℕ → Seated L) (up : (y : ℕ) → Upto (B y).s (B y).p (B' y).s (B' y).p) where
  pub up_global : Global R P A B → Global R P A B'
  up_global g = record {
    valid = g.valid;
    ranged = g.ranged;
    one = g.one;
    sent = g.sent;
    past = λ a s. up_past B B' up (g.past a s);
    main = g.main;
    carry_or = λ s p lt at. ⊎_elim inl (λ b. inr (up_beyond B B' up b)) (g.carry_or s p lt at);
    carry_acc = g.carry_acc;
    under_seat = g.under_seat;
    under_lead = g.under_lead;
    own_carry = g.own_carry;
    carry_one = g.carry_one;
    acc_carry = g.acc_carry;
    prop_past = λ p lt at. up_past B B' up (g.prop_past p lt at);
    seat_past = λ s d lt none at qu lt2. up_past B B' up (g.seat_past s d lt none at qu lt2);
  }

  pub up_leader : {w : ℕ} {v : Leader L} → LeaderOk R P A B w v → LeaderOk R P A B' w v
  up_leader ok = record {
    fits = ok.fits;
    seat_read = ok.seat_read;
    seat_at = ok.seat_at;
    newest = ok.newest;
    marked = ok.marked;
    carries = ok.carries;
    idle = ok.idle;
    claim = λ h. let cl = ok.claim h in record {
      mine = cl.mine;
      read = cl.read;
      sits = cl.sits;
      newest = cl.newest;
      next = cl.next;
      moved = cl.moved;
      knows = cl.knows;
      proposed = cl.proposed;
      past = λ t lt. up_past B B' up (cl.past t lt);
      counted = λ t n. let z = cl.counted t n in (up_past B B' up z.0, z.1);
      told = cl.told;
    };
  }

module _ {L : Type 0} (R : List (Entry L)) (P A : Facts L) (B B' : ℕ → Seated L) (up : (y : ℕ) → Upto (B y).s (B y).p (B' y).s (B' y).p) where
  pub up_msg : (m : Msg L) → MsgOk R P A B m → MsgOk R P A B' m
  up_msg (prepare to from f d) h = h
  up_msg (proposal to f d j m) h = h
  up_msg (promise to f d n) h = (h.0, h.1, up_past B B' up h.2, h.3, h.4)
  up_msg (report to f d j m) h = h
  up_msg (learn j m) h = h

module _ {L : Type 0} {R : List (Entry L)} {P A : Facts L} {B : ℕ → Seated L} (g : Global R P A B)
    {x e c : ℕ} (seated : At R e (seat x)) (timely : Upto (B x).s (B x).p e c) (ok : SeatedOk R A x (B x)) where
  -- sitting under e
  pub sits_ok : SeatedOk R A x (sits e c (B x))
  sits_ok = record {
    sits = λ h. seated;
    has = λ {k} {l}. cond_both (ltb (B x).s e) (λ k. None) (B x).cells (λ cs. cs k ≡ Some l → (d : ℕ) × A e d k l)
        (λ t h. absurd (none_not_some refl h))
        (λ t h. let z = ok.has h in (z.0, subst (λ i. A i z.0 k l) (at_e t) z.1));
    keeps = λ {c = d} {k} {l} a. cond_both (ltb (B x).s e) (λ k. None) (B x).cells (λ cs. cs k ≡ None → ⊥)
        (λ t h. let z = (g.past a seated).low in let y = ltb-true (B x).s e t in omega arith)
        (λ t h. ok.keeps (subst (λ i. A i d k l) (sym (at_e t)) a) h);
  }
    where
      at_e : ltb (B x).s e ≡ false → (B x).s ≡ e
      at_e t = let z = ltb-false (B x).s e t in let y = timely.low in omega arith

  -- the count that is promised
  pub promised : Counts A e c (tally (λ k. is_some ((sits e c (B x)).cells k)) 64)
  promised = record {
    f = λ k. is_some ((sits e c (B x)).cells k);
    many = refl;
    sound = λ {k} h. let z = some_is ((sits e c (B x)).cells k) h in let y = sits_ok.has z.1 in (y.0, z.0, upto_tied (upto_trans (g.past y.1 seated) timely), y.1);
    whole = λ {d} {k} le a. not_none ((sits e c (B x)).cells k) (sits_ok.keeps a);
    small = λ {k} h. let z = some_is ((sits e c (B x)).cells k) h in g.ranged (g.sent (sits_ok.has z.1).1);
  }

  -- what is reported
  pub reported : (k : ℕ) (l : L) → (sits e c (B x)).cells k ≡ Some l → (d : ℕ) × (d ≤ c) × A e d k l
  reported k l h = let y = sits_ok.has h in (y.0, upto_tied (upto_trans (g.past y.1 seated) timely), y.1)

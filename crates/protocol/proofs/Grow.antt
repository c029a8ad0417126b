-- The roster gains an entry.
use Rattle.std.proofs.Common.{◌≡◌, ℕ, suc, ◌<◌, ◌≤◌, ◌⊎◌, List, [], ◌∷◌, ◌++◌, length, sym, ◌∙◌, subst, inl, inr, ⊎_elim, arith}
use Rattle.roster.specs.declared.entry.Entry.{Entry}
use Rattle.protocol.specs.Words.{At}
use Rattle.roster.specs.declared.entry.Entry.TheVariants.{Lead as lead, Seat as seat, Carry as carry}
use Rattle.protocol.proofs.Places.{length_more, at_high, at_grow, at_last, at_old}
use Rattle.protocol.proofs.Inv.{Facts, SeatedOk, MsgOk, NoLead, NoSeat, HasPromised, NoLongerAccepts, Before, Global, LeaderOk, Valid, Quiet}
use Rattle.protocol.proofs.Msg.{Msg}
use Rattle.protocol.proofs.Msg.Msg.{prepare, proposal, promise, report, learn}
use Rattle.protocol.proofs.Roles.{Seated, Leader}
use Rattle.protocol.proofs.Tools.{side}

-- what the new entry n must not break
pub record Fresh {L : Type 0} (R : List (Entry L)) (P A : Facts L) (B : ℕ → Seated L) (n : Entry L) : Type 0 where
  pub carry_or : {y e c k x : ℕ} {l : L} → seat y ≡ n → P e c k l → At R e (seat x) → Before R (suc (length R)) k l ⊎ NoLongerAccepts B x e c
  pub carry_acc : {y e c k : ℕ} {l : L} → seat y ≡ n → A e c k l → Before R (suc (length R)) k l
  pub own_carry : {e c k : ℕ} {l m : L} → carry k m ≡ n → P e c k l → NoLead R c (suc (length R)) → l ≡ m
  pub carry_one : {q k : ℕ} {l m : L} → carry k l ≡ n → At R q (carry k m) → l ≡ m
  pub acc_carry : {e c k : ℕ} {l m : L} → carry k m ≡ n → A e c k l → l ≡ m
  pub seat_past : {e x c w : ℕ} → Quiet n → At R e (seat x) → At R c (lead w) → e < c → NoSeat R e c → HasPromised B x e c

module _ {L : Type 0} {R : List (Entry L)} (n : Entry L) where
  pub in_old : {p : ℕ} {z : Entry L} → p ≤ length R → At (R ++ (n ∷ [])) p z → At R p z
  in_old le h = ⊎_elim (λ k. k) (λ k. let q = k.0 in absurd (let z : ⊥ = omega arith in z)) (at_old R n h)

  pub grow_nolead : {a b : ℕ} → b ≤ suc (length R) → NoLead R a b → NoLead (R ++ (n ∷ [])) a b
  grow_nolead le none q u i j h = none q u i j (in_old (omega arith) h)

  pub grow_noseat : {a b : ℕ} → b ≤ suc (length R) → NoSeat R a b → NoSeat (R ++ (n ∷ [])) a b
  grow_noseat le none q u i j h = none q u i j (in_old (omega arith) h)

  pub cut_nolead : {a b : ℕ} → NoLead (R ++ (n ∷ [])) a b → NoLead R a b
  cut_nolead none q u i j h = none q u i j (at_grow n h)

  pub cut_noseat : {a b : ℕ} → NoSeat (R ++ (n ∷ [])) a b → NoSeat R a b
  cut_noseat none q u i j h = none q u i j (at_grow n h)

  pub grow_before : {b k : ℕ} {l : L} → Before R b k l → Before (R ++ (n ∷ [])) b k l
  grow_before h = (h.0, h.1, at_grow n h.2)

  pub grow_valid : {e c : ℕ} → Valid R e c → Valid (R ++ (n ∷ [])) e c
  grow_valid {e} {c} h = record {
    led = h.led;
    lead_at = at_grow n h.lead_at;
    sat = h.sat;
    seat_at = at_grow n h.seat_at;
    native = λ lt. grow_nolead (let z = at_high h.seat_at in omega arith) (h.native lt);
  }

module _ {L : Type 0} {R : List (Entry L)} {P A : Facts L} {B : ℕ → Seated L} (n : Entry L) where
  pub grow_global : Global R P A B → Fresh R P A B n → Global (R ++ (n ∷ [])) P A B
  grow_global g f = record {
    valid = λ h. grow_valid n (g.valid h);
    ranged = g.ranged;
    one = g.one;
    sent = g.sent;
    past = λ h s. g.past h (old_seat (g.sent h) s);
    main = g.main;
    carry_or = λ s p lt at. ⊎_elim
        (λ o. ⊎_elim (λ b. inl (grow_before n b)) inr (g.carry_or o p lt (old_seat p at)))
        (λ o. ⊎_elim (λ b. inl (last_before o.0 b)) inr (f.carry_or o.1 p (old_seat p at)))
        (at_old R n s);
    carry_acc = λ s a lt. ⊎_elim
        (λ o. grow_before n (g.carry_acc o a lt))
        (λ o. last_before o.0 (f.carry_acc o.1 a))
        (at_old R n s);
    under_seat = λ p at lt. g.under_seat p (in_old n (let z = at_high (g.valid p).seat_at in omega arith) at) lt;
    under_lead = λ p at lt. g.under_lead p (in_old n (let z = at_high (g.valid p).lead_at in omega arith) at) lt;
    own_carry = λ {q} {e} {c} p at lt none. ⊎_elim
        (λ o. g.own_carry p o lt (cut_nolead n none))
        (λ o. f.own_carry o.1 p (cut_nolead n (subst (λ i. NoLead (R ++ (n ∷ [])) c i) o.0 none)))
        (at_old R n at);
    carry_one = λ {q} {j} {k} {l} {m} h i. ⊎_elim
        (λ o. ⊎_elim (λ p. g.carry_one o p) (λ p. sym (f.carry_one p.1 o)) (at_old R n i))
        (λ o. ⊎_elim (λ p. f.carry_one o.1 p) (λ p. let z : ◌≡◌ {A = Entry L} (carry k l) (carry k m) = o.1 ∙ sym p.1 in cc) (at_old R n i))
        (at_old R n h);
    acc_carry = λ a at. ⊎_elim (λ o. g.acc_carry a o) (λ o. f.acc_carry o.1 a) (at_old R n at);
    prop_past = λ p lt at. g.prop_past p lt (old_seat p at);
    seat_past = λ {e} {x} {c} {w} {q} {y} s d lt none at qu lt2.
        let le : q ≤ suc (length R) = (let z = at_high at in let i = length_more R n in omega arith) in
        let s' = in_old n {p = e} (omega arith) s in
        let d' = in_old n {p = c} (omega arith) d in
        ⊎_elim (λ o. g.seat_past s' d' lt (cut_noseat n none) o qu lt2) (λ o. f.seat_past (subst Quiet o.1 qu) s' d' lt (cut_noseat n none)) (at_old R n at);
  }
    where
      old_seat : {e c k x : ℕ} {l : L} → P e c k l → At (R ++ (n ∷ [])) e (seat x) → At R e (seat x)
      old_seat p at = in_old n (at_high (g.valid p).seat_at) at

      last_before : {b k : ℕ} {l : L} → b ≡ suc (length R) → Before R (suc (length R)) k l → Before (R ++ (n ∷ [])) b k l
      last_before eq h = (h.0, (let z = h.1 in omega arith), at_grow n h.2)

  pub grow_leader : {w : ℕ} {v : Leader L} → (0 < v.c → v.r ≡ length R → (u : ℕ) × (n ≡ lead u)) → LeaderOk R P A B w v → LeaderOk (R ++ (n ∷ [])) P A B w v
  grow_leader {w} {v} end ok = record {
    fits = let z = ok.fits in let i = length_more R n in omega arith;
    seat_read = ok.seat_read;
    seat_at = λ h. at_grow n (ok.seat_at h);
    newest = grow_noseat n (let z = ok.fits in omega arith) ok.newest;
    marked = λ h. let z = ok.marked h in (z.0, grow_before n z.1);
    carries = λ le at. ok.carries le (in_old n (let z = ok.fits in omega arith) at);
    idle = ok.idle;
    claim = λ h. let z = ok.claim h in record {
      mine = at_grow n z.mine;
      read = z.read;
      sits = z.sits;
      newest = grow_nolead n (let i = ok.fits in omega arith) z.newest;
      next = λ lt. ⊎_elim
          (λ less. let y = z.next less in (y.0, at_grow n y.1))
          (λ eq. let last : v.r ≡ length R = (let i = ok.fits in omega arith) in
          let y = end h last in (y.0, subst (λ i. At (R ++ (n ∷ [])) (suc i) (lead y.0)) (sym last) (subst (λ i. At (R ++ (n ∷ [])) (suc (length R)) i) y.1 (at_last R n))))
          (side v.r (length R));
      moved = z.moved;
      knows = z.knows;
      proposed = z.proposed;
      past = z.past;
      counted = z.counted;
      told = z.told;
    };
  }

module _ {L : Type 0} (R : List (Entry L)) (n : Entry L) where
  pub grow_seated : {A : Facts L} {x : ℕ} {b : Seated L} → SeatedOk R A x b → SeatedOk (R ++ (n ∷ [])) A x b
  grow_seated ok = record { sits = λ h. at_grow n (ok.sits h); has = ok.has; keeps = ok.keeps }

  pub grow_msg : (P A : Facts L) (B : ℕ → Seated L) (m : Msg L) → MsgOk R P A B m → MsgOk (R ++ (n ∷ [])) P A B m
  grow_msg P A B (prepare to from f d) h = (at_grow n h.0, at_grow n h.1)
  grow_msg P A B (proposal to f d j m) h = (at_grow n h.0, h.1)
  grow_msg P A B (promise to f d k) h = (h.0, at_grow n h.1, h.2, h.3, h.4)
  grow_msg P A B (report to f d j m) h = h
  grow_msg P A B (learn j m) h = h

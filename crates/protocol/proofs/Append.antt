-- Who may append what: Lead by anyone, Carry and Seat by a worker whose claim is taken up and who has read all.
use Rattle.std.proofs.Common.{◌≡◌, ℕ, suc, ◌<◌, ◌≤◌, true, false, ◌⊎◌, List, length, Some, sym, ◌∙◌, subst, inl, inr, ⊎_elim, arith}
use Rattle.std.proofs.lemmas.Bool.{both_ways}
use Rattle.roster.specs.declared.entry.Entry.{Entry}
use Rattle.protocol.specs.Words.{At}
use Rattle.roster.specs.declared.entry.Entry.TheVariants.{Lead as lead, Seat as seat, Carry as carry}
use Rattle.protocol.proofs.Places.{at_low, at_high, lead_not_seat, same_lead, same_seat}
use Rattle.protocol.proofs.Inv.{Facts, NoSeat, Upto, HasPromised, NoLongerAccepts, Before, Global, Claim, LeaderOk}
use Rattle.protocol.proofs.Roles.{Seated, Leader}
use Rattle.protocol.proofs.Tools.{some_same, side, three, upto_trans, under_trans, at_tie, under_tie}
use Rattle.protocol.proofs.Grow.{Fresh}

module _ {L : Type 0} where
  pub seat_is_lead : {y w : ℕ} {X : Type 0} → ◌≡◌ {A = Entry L} (seat y) (lead w) → X
  seat_is_lead h = absurd (let z : ◌≡◌ {A = ℕ} 0 1 = cc in let b : ⊥ = omega arith in b)

  pub carry_is_lead : {k w : ℕ} {l : L} {X : Type 0} → ◌≡◌ {A = Entry L} (carry k l) (lead w) → X
  carry_is_lead h = absurd (let z : ◌≡◌ {A = ℕ} 0 1 = cc in let b : ⊥ = omega arith in b)

  pub carry_is_seat : {k w : ℕ} {l : L} {X : Type 0} → ◌≡◌ {A = Entry L} (carry k l) (seat w) → X
  carry_is_seat h = absurd (let z : ◌≡◌ {A = ℕ} 0 1 = cc in let b : ⊥ = omega arith in b)

  pub carry_line : {k j : ℕ} {l m : L} → ◌≡◌ {A = Entry L} (carry k l) (carry j m) → (k ≡ j) × (l ≡ m)
  carry_line h = ((cc), (cc))

  pub fresh_lead : {R : List (Entry L)} {P A : Facts L} {B : ℕ → Seated L} (w : ℕ) → Fresh R P A B (lead w)
  fresh_lead w = record {
    carry_or = λ eq p at. seat_is_lead eq;
    carry_acc = λ eq a. seat_is_lead eq;
    own_carry = λ eq p none. carry_is_lead eq;
    carry_one = λ eq at. carry_is_lead eq;
    acc_carry = λ eq a. carry_is_lead eq;
    seat_past = λ qu s d lt none. absurd qu;
  }

  -- an empty roster: nothing was proposed
  pub fresh_first : {R : List (Entry L)} {P A : Facts L} {B : ℕ → Seated L} (x : ℕ) → Global R P A B → length R ≡ 0 → Fresh R P A B (seat x)
  fresh_first {R} x g empty = record {
    carry_or = λ eq p at. absurd (none at);
    carry_acc = λ eq a. absurd (none (g.valid (g.sent a)).seat_at);
    own_carry = λ eq p n. absurd (none (g.valid p).seat_at);
    carry_one = λ eq at. absurd (none at);
    acc_carry = λ eq a. absurd (none (g.valid (g.sent a)).seat_at);
    seat_past = λ qu s d lt n. absurd (none s);
  }
    where
      none : {p : ℕ} {y : Entry L} → At R p y → ⊥
      none h = let i = at_low h in let j = at_high h in omega arith

module _ {L : Type 0} {R : List (Entry L)} {P A : Facts L} {B : ℕ → Seated L} (g : Global R P A B)
    {w : ℕ} {v : Leader L} (ok : LeaderOk R P A B w v) (has : 0 < v.c) (tk : v.taken ≡ true) (all : v.r ≡ length R) where
  cl : Claim R P A B w v
  cl = ok.claim has

  seated : At R v.e (seat v.a)
  seated = ok.seat_at cl.sits

  -- this worker's seat and claim are the newest
  newest_seat : {e x : ℕ} → At R e (seat x) → e ≤ v.e
  newest_seat {e} {x} h = ⊎_elim (λ lt. absurd (ok.newest e x lt (let z = at_high h in omega arith) h)) (λ z. z) (side v.e e)

  newest_lead : {c u : ℕ} → At R c (lead u) → c ≤ v.c
  newest_lead {c} {u} h = ⊎_elim (λ lt. absurd (cl.newest c u lt (let z = at_high h in omega arith) h)) (λ z. z) (side v.c c)

  pub other_claims : {u : ℕ} {o : Leader L} → LeaderOk R P A B u o → 0 < o.c → o.r ≡ length R → w ≡ u
  other_claims {u} {o} ok2 h last =
      let z = ok2.claim h in
      let i = newest_lead z.mine in
      let j : v.c ≤ o.c = ⊎_elim (λ lt. absurd (z.newest v.c w lt (let k = at_high cl.mine in omega arith) cl.mine)) (λ k. k) (side o.c v.c) in
      same_lead cl.mine (subst (λ q. At R q (lead u)) (let q : o.c ≡ v.c = omega arith in q) z.mine)

  upto_mine : {e c k : ℕ} {l : L} → P e c k l → Upto e c v.e v.c
  upto_mine p = let z = g.valid p in record { low = newest_seat z.seat_at; tie = λ i. newest_lead z.lead_at }

  pub knows_all : {e c k : ℕ} {l : L} → A e c k l → v.hand k ≡ Some l
  knows_all a = cl.knows tk a (upto_mine (g.sent a))

  passed : {e x c u : ℕ} → At R e (seat x) → At R c (lead u) → e < c → NoSeat R e c → HasPromised B x e c
  passed {e} {x} {c} {u} s d lt none = ⊎_elim earlier (λ ge. same (let z = newest_seat s in omega arith)) (side e v.e)
    where
      earlier : e < v.e → HasPromised B x e c
      earlier le = ⊎_elim (λ h. g.seat_past s d lt none seated tt h)
          (⊎_elim (λ h. absurd (lead_not_seat d (subst (λ z. At R z (seat v.a)) (sym h) seated))) (λ h. absurd (none v.e v.a le h seated))) (three c v.e)

      same : e ≡ v.e → HasPromised B x e c
      same eq =
          let x-is : v.a ≡ x = same_seat seated (subst (λ z. At R z (seat x)) eq s) in
          let le = newest_lead d in
          let z : HasPromised B x v.e v.c = subst (λ i. HasPromised B i v.e v.c) x-is (cl.past tk (omega arith)) in
          upto_trans (at_tie e le) (subst (λ i. HasPromised B x i v.c) (sym eq) z)

  pub fresh_carry : (k : ℕ) (l : L) → v.hand k ≡ Some l → v.carried k ≡ false → Fresh R P A B (carry k l)
  fresh_carry k l inhand unmarked = record {
    carry_or = λ eq p at. carry_is_seat (sym eq);
    carry_acc = λ eq a. carry_is_seat (sym eq);
    own_carry = λ {e} {c} {k = j} {l = i} {m} eq p none.
        let q = carry_line eq in
        let le = newest_lead (g.valid p).lead_at in
        let ge : v.c ≤ c = ⊎_elim (λ lt. absurd (none v.c w lt (let z = at_high cl.mine in omega arith) cl.mine)) (λ z. z) (side c v.c) in
        let z = (cl.proposed (subst (λ i2. P e i2 j i) (let y : c ≡ v.c = omega arith in y) p)).1 in
        some_same z (subst (λ i2. v.hand i2 ≡ Some l) (sym q.0) inhand) ∙ sym q.1;
    carry_one = λ {q} {k = j} eq at.
        let z = (ok.carries (let y = at_high at in omega arith) at).0 in
        absurd (both_ways (v.carried k) unmarked (subst (λ i. v.carried i ≡ true) (carry_line eq).0 z));
    acc_carry = λ {e} {c} {k = j} {l = i} {m} eq a.
        let q = carry_line eq in
        some_same (knows_all a) (subst (λ i2. v.hand i2 ≡ Some l) (sym q.0) inhand) ∙ sym q.1;
    seat_past = λ qu. passed;
  }

  pub fresh_seat : (b : ℕ) → ((k : ℕ) (l : L) → v.hand k ≡ Some l → v.carried k ≡ true) → Fresh R P A B (seat b)
  fresh_seat b marks = record {
    carry_or = λ {y} {e} {c} {k} {x} {l} eq p s. ⊎_elim (earlier p s) (λ ge. same p s (let z = newest_seat s in omega arith)) (side e v.e);
    carry_acc = λ eq a. kept (knows_all a);
    own_carry = λ eq p none. carry_is_seat eq;
    carry_one = λ eq at. carry_is_seat eq;
    acc_carry = λ eq a. carry_is_seat eq;
    seat_past = λ qu. passed;
  }
    where
      kept : {k : ℕ} {l : L} → v.hand k ≡ Some l → Before R (suc (length R)) k l
      kept {k} {l} h =
          let m = ok.marked (marks k l h) in
          let q = m.1 in
          let z = (ok.carries (let y = q.1 in omega arith) q.2).1 in
          (q.0, (let y = q.1 in omega arith), subst (λ i. At R q.0 (carry k i)) (some_same z h) q.2)

      earlier : {e c k x : ℕ} {l : L} → P e c k l → At R e (seat x) → e < v.e → Before R (suc (length R)) k l ⊎ NoLongerAccepts B x e c
      earlier p s lt = ⊎_elim (λ q. inl (q.0, (let y = q.1 in let z = at_high seated in omega arith), q.2)) inr (g.carry_or seated p lt s)

      same : {e c k x : ℕ} {l : L} → P e c k l → At R e (seat x) → e ≡ v.e → Before R (suc (length R)) k l ⊎ NoLongerAccepts B x e c
      same {e} {c} {k} {x} {l} p s eq =
          let le = newest_lead (g.valid p).lead_at in
          ⊎_elim
          (λ lt. inr (beyond p s eq lt))
          (λ ge. inl (kept (cl.proposed (subst (λ i. P e i k l) (let y : c ≡ v.c = omega arith in y) p)).1))
          (side c v.c)
        where
          beyond : {e c k x : ℕ} {l : L} → P e c k l → At R e (seat x) → e ≡ v.e → c < v.c → NoLongerAccepts B x e c
          beyond {e} {c} {k} {x} {l} p s eq lt =
              let x-is : v.a ≡ x = same_seat seated (subst (λ z. At R z (seat x)) eq s) in
              ⊎_elim
              (λ ec. under_trans (under_tie e lt) (subst (λ i. HasPromised B x i v.c) (sym eq) (subst (λ i. HasPromised B i v.e v.c) x-is (cl.past tk (omega arith)))))
              (⊎_elim (λ ec. absurd (lead_not_seat cl.mine (subst (λ z. At R z (seat x)) ec s))) (λ ec. absurd ((g.valid p).native (omega arith) v.c w lt ec cl.mine)))
              (three e v.c)

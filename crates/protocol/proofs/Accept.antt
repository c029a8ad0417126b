-- A timely Proposal is delivered at its seat: the line is accepted.
use Rattle.std.proofs.Common.{◌≡◌, ℕ, ◌<◌, ◌≤◌, true, List, Some, None, sym, refl, subst, inl, inr, ⊎_elim, arith}
use Rattle.roster.specs.declared.entry.Entry.{Entry}
use Rattle.protocol.specs.Words.{At}
use Rattle.roster.specs.declared.entry.Entry.TheVariants.{Lead as lead, Seat as seat, Carry as carry}
use Rattle.protocol.proofs.Places.{at_low, lead_not_seat, lead_not_carry, seat_not_carry, same_seat}
use Rattle.protocol.proofs.Inv.{Facts, Add, Counts, NoneSent, SeatedOk, MsgOk, Upto, HasPromised, NoLongerAccepts, Before, Global, Claim, LeaderOk}
use Rattle.protocol.proofs.Msg.{Msg}
use Rattle.protocol.proofs.Msg.Msg.{prepare, proposal, promise, report, learn}
use Rattle.protocol.proofs.Put.{put}
use Rattle.protocol.proofs.Roles.{Seated, Leader}
use Rattle.protocol.proofs.Tools.{put_both, none_not_some, some_same, add_case, side, three, not_under, upto_trans, under_trans, upto_tied, lead_between, seat_between}

module _ {L : Type 0} {R : List (Entry L)} {P A : Facts L} {B : ℕ → Seated L} (g : Global R P A B)
    {x e c k : ℕ} {l : L} (sent : P e c k l) (seated : At R e (seat x)) (timely : Upto (B x).s (B x).p e c) where
  -- the seat has not gone beyond this Proposal
  not_beyond : NoLongerAccepts B x e c → ⊥
  not_beyond h = not_under timely h

  -- a later seat has the line carried
  carried : {b y : ℕ} → At R b (seat y) → e < b → Before R b k l
  carried h lt = ⊎_elim (λ z. z) (λ z. absurd (not_beyond z)) (g.carry_or h sent lt seated)

  -- no later claim has been taken up under the same seat
  no_later : {d w : ℕ} → At R d (lead w) → c < d → (e < d → HasPromised B x e d) → ⊥
  no_later {d} led lt past = ⊎_elim (λ h. let z : d ≤ c = upto_tied (upto_trans (past h) timely) in omega arith)
      (⊎_elim (λ h. lead_not_seat led (subst (λ z. At R z (seat x)) h seated)) (λ h. (g.valid sent).native (omega arith) d _ lt h led)) (three e d)

  pub main_new : (f d : ℕ) (m : L) → P f d k m → Upto e c f d → l ≡ m
  main_new f d m h le = ⊎_elim later (λ ge. same (omega arith)) (side e f)
    where
      later : e < f → l ≡ m
      later lt = let v = g.valid h in let b = carried v.seat_at lt in sym (g.under_seat h b.2 b.1)

      same : e ≡ f → l ≡ m
      same eq = ⊎_elim
          (λ lt. absurd (no_later (g.valid h).lead_at lt (λ ed. subst (λ z. HasPromised B x z d) (sym eq) (g.prop_past h (subst (λ z. z < d) eq ed) (subst (λ z. At R z (seat x)) eq seated)))))
          (λ ge. g.one sent (subst (λ z. P f z k m) (let q : d ≡ c = omega arith in q) h))
          (side c d)

  pub carry_new : (q : ℕ) (m : L) → At R q (carry k m) → l ≡ m
  carry_new q m h = ⊎_elim (g.under_seat sent h) (⊎_elim (λ eq. absurd (seat_not_carry (subst (λ z. At R z (seat x)) (sym eq) seated) h)) past_seat) (three q e)
    where
      -- the Carry stands behind the seat and the claim, with a Lead between: the claim was over
      stale : e < q → (j u : ℕ) → c < j → j < q → At R j (lead u) → l ≡ m
      stale eq j u cj jq led = ⊎_elim
          (λ s. let b = carried s.4 s.2 in g.carry_one b.2 h)
          (λ none. absurd (no_later led cj (λ ej. g.seat_past seated led ej (λ p v ep pj at. none p v ep (omega arith) at) h tt jq)))
          (seat_between R e q)

      past_lead : e < q → c < q → l ≡ m
      past_lead eq cq = ⊎_elim (λ s. stale eq s.0 s.1 s.2 s.3 s.4) (g.own_carry sent h cq) (lead_between R c q)

      past_seat : e < q → l ≡ m
      past_seat eq = ⊎_elim (g.under_lead sent h) (⊎_elim (λ cq. absurd (lead_not_carry (subst (λ z. At R z (lead (g.valid sent).led)) (sym cq) (g.valid sent).lead_at) h)) (past_lead eq)) (three q c)

  module _ (B' : ℕ → Seated L) (up : (y : ℕ) → Upto (B y).s (B y).p (B' y).s (B' y).p) (now : HasPromised B' x e c) where
    up_past : {y f d : ℕ} → HasPromised B y f d → HasPromised B' y f d
    up_past {y} h = upto_trans h (up y)

    up_beyond : {y f d : ℕ} → NoLongerAccepts B y f d → NoLongerAccepts B' y f d
    up_beyond {y} h = under_trans h (up y)

    pub accept_global : Global R P (Add A e c k l) B'
    accept_global = record {
      valid = g.valid;
      ranged = g.ranged;
      one = g.one;
      sent = add_case P (λ f d j m h. g.sent h) sent;
      past = λ {e = f} {c = d} {k = j} {x = y} {l = m} h s. add_case {P = A} (λ f d j m. (y : ℕ) → At R f (seat y) → HasPromised B' y f d) (λ f d j m a y s. up_past (g.past a s)) (λ y s. subst (λ z. HasPromised B' z e c) (same_seat seated s) now) h y s;
      main = λ {e = e1} {c = c1} {f = f2} {d = d2} {k = j} {l = m1} {m = m2} h p le. add_case {P = A} (λ f d j m. (f2 d2 : ℕ) (m2 : L) → P f2 d2 j m2 → Upto f d f2 d2 → m ≡ m2) (λ f d j m a f2 d2 m2 p le. g.main a p le) main_new h f2 d2 m2 p le;
      carry_or = λ s p lt at. ⊎_elim inl (λ b. inr (up_beyond b)) (g.carry_or s p lt at);
      carry_acc = λ {b} {y} {e = f} {c = d} {k = j} {l = m} s h lt. add_case {P = A} (λ f d j m. f < b → Before R b j m) (λ f d j m a lt. g.carry_acc s a lt) (λ lt. carried s lt) h lt;
      under_seat = g.under_seat;
      under_lead = g.under_lead;
      own_carry = g.own_carry;
      carry_one = g.carry_one;
      acc_carry = λ {q} {e = f} {c = d} {k = j} {l = m1} {m = m2} h at. add_case {P = A} (λ f d j m. (q : ℕ) (m2 : L) → At R q (carry j m2) → m ≡ m2) (λ f d j m a q m2 at. g.acc_carry a at) carry_new h q m2 at;
      prop_past = λ p lt at. up_past (g.prop_past p lt at);
      seat_past = λ s d lt none at qu lt2. up_past (g.seat_past s d lt none at qu lt2);
    }

    -- a count that the Proposal does not bear on
    keep_counts : {f d n : ℕ} → (e ≡ f → c ≤ d → ⊥) → Counts A f d n → Counts (Add A e c k l) f d n
    keep_counts {f} {d} {n} apart t = record {
      f = t.f;
      many = t.many;
      sound = λ h. let z = t.sound h in (z.0, z.1, z.2, inl z.3);
      whole = λ le h. ⊎_elim (t.whole le) (λ z. absurd (apart (sym z.0) (let q = z.1 in omega arith))) h;
      small = t.small;
    }

    -- under a promise, nothing of an untouched claim is accepted
    apart_of : {f d : ℕ} → ((y : ℕ) → At R f (seat y) → HasPromised B y f d) → NoneSent P f d → e ≡ f → c ≤ d → ⊥
    apart_of {f} {d} past none ef cd =
        let z : Upto e d e c = upto_trans (subst (λ i. HasPromised B x i d) (sym ef) (past x (subst (λ i. At R i (seat x)) ef seated))) timely in
        let same : c ≡ d = (let y = upto_tied z in omega arith) in
        none k l (subst (λ i. P f i k l) same (subst (λ i. P i c k l) ef sent))

    pub accept_msg : (m : Msg L) → MsgOk R P A B m → MsgOk R P (Add A e c k l) B' m
    accept_msg (prepare to from f d) h = h
    accept_msg (proposal to f d j m) h = h
    accept_msg (promise to f d n) h = (h.0, h.1, up_past h.2, λ none. keep_counts (apart_of (λ y s. subst (λ i. HasPromised B i f d) (same_seat h.1 s) h.2) none) (h.3 none), h.4)
    accept_msg (report to f d j m) h = (h.0, h.1, inl h.2, h.3)
    accept_msg (learn j m) h = (h.0, h.1, inl h.2)

    module _ {w : ℕ} {v : Leader L} (ok : LeaderOk R P A B w v) where
      knows_new : Claim R P A B w v → v.taken ≡ true → Upto e c v.e v.c → v.hand k ≡ Some l
      knows_new cl tk le = ⊎_elim later (λ ge. same (let lo = le.low in omega arith)) (side e v.e)
        where
          later : e < v.e → v.hand k ≡ Some l
          later lt = let b = carried (ok.seat_at cl.sits) lt in let q = b.1 in let z = ok.seat_read in (ok.carries (omega arith) b.2).1

          same : e ≡ v.e → v.hand k ≡ Some l
          same eq =
              let x-is : x ≡ v.a = same_seat (subst (λ z. At R z (seat x)) eq seated) (ok.seat_at cl.sits) in
              let le' : c ≤ v.c = le.tie (omega arith) in
              ⊎_elim
              (λ lt. absurd (no_later cl.mine lt (λ ev. subst (λ z. HasPromised B x z v.c) (sym eq) (subst (λ z. HasPromised B z v.e v.c) (sym x-is) (cl.past tk (subst (λ z. z < v.c) eq ev))))))
              (λ ge. (cl.proposed (subst (λ z. P e z k l) (let q : c ≡ v.c = omega arith in q) sent)).1)
              (side c v.c)

      accept_claim : Claim R P A B w v → Claim R P (Add A e c k l) B' w v
      accept_claim cl = record {
        mine = cl.mine;
        read = cl.read;
        sits = cl.sits;
        newest = cl.newest;
        next = cl.next;
        moved = cl.moved;
        knows = λ tk {e = f} {c = d} {k = j} {l = m} h le. add_case {P = A} (λ f d j m. Upto f d v.e v.c → v.hand j ≡ Some m) (λ f d j m a le. cl.knows tk a le) (knows_new cl tk) h le;
        proposed = cl.proposed;
        past = λ tk lt. up_past (cl.past tk lt);
        counted = λ tk h. let z = cl.counted tk h in (up_past z.0, λ none. keep_counts (apart_of (λ y s. subst (λ i. HasPromised B i v.e v.c) (same_seat (ok.seat_at cl.sits) s) z.0) none) (z.1 none));
        told = λ tk h. let z = cl.told tk h in (z.0, z.1, z.2, inl z.3, z.4);
      }

      pub accept_leader : LeaderOk R P (Add A e c k l) B' w v
      accept_leader = record {
        fits = ok.fits;
        seat_read = ok.seat_read;
        seat_at = ok.seat_at;
        newest = ok.newest;
        marked = ok.marked;
        carries = ok.carries;
        idle = ok.idle;
        claim = λ h. accept_claim (ok.claim h);
      }

    pub accept_others : (y : ℕ) (b : Seated L) → (x ≡ y → ⊥) → SeatedOk R A y b → SeatedOk R (Add A e c k l) y b
    accept_others y b apart ok = record {
      sits = ok.sits;
      has = λ h. let z = ok.has h in (z.0, inl z.1);
      keeps = λ h. ⊎_elim ok.keeps (λ z. absurd (apart (same_seat seated (subst (λ i. At R i (seat y)) z.0 (ok.sits (let q = z.0 in let lo = at_low seated in omega arith)))))) h;
    }

    -- the seat itself, once it sits under e
    pub accept_own : (b : Seated L) → b.s ≡ e → SeatedOk R A x b → SeatedOk R (Add A e c k l) x (record { s = b.s; p = c; cells = put b.cells k (Some l) })
    accept_own b eq ok = record {
      sits = ok.sits;
      has = λ {k = j} {l = m} h. put_both (λ o. o ≡ Some m → (d : ℕ) × Add A e c k l b.s d j m) b.cells k (Some l) j
          (λ here o. (c, inr (eq, refl, here, some_same o refl)))
          (λ apart o. let z = ok.has o in (z.0, inl z.1)) h;
      keeps = λ {c = d} {k = j} {l = m} h. put_both (λ o. o ≡ None → ⊥) b.cells k (Some l) j
          (λ here o. none_not_some o refl)
          (λ apart o. ⊎_elim (λ a. ok.keeps a o) (λ z. apart z.2) h);
    }

-- The way to a line: what is sent can be delivered.
use Rattle.std.proofs.Common.{◌≡◌, ℕ, zero, suc, ◌+◌, ◌-◌, ◌<◌, ◌≤◌, Bool, true, false, not, ◌&&◌, ◌||◌, eqb, ltb, leb, List, [], ◌∷◌, ◌++◌, length, Some, None, Option, sym, refl, ap, ◌∙◌, subst, ⊎_elim, arith, is_some}
use Rattle.std.proofs.lemmas.Bool.{both_ways, lt-ltb, le-ltb, le-leb, ne_eqb, or_from, and_left, and_right, and_from, eq-eqb}
use Rattle.protocol.specs.Words.{bump, proposals, puts, tally}
use Rattle.roster.specs.declared.entry.Entry.TheVariants.{Lead as lead}
use Rattle.protocol.proofs.Inv.{Upto}
use Rattle.protocol.proofs.Msg.{Msg}
use Rattle.protocol.proofs.Msg.Msg.{prepare, proposal, promise, report, learn}
use Rattle.protocol.proofs.Put.{put}
use Rattle.protocol.proofs.Roles.{ready, Seated, Leader, leads, settle, counts, reports, sits}
use Rattle.protocol.proofs.Tools.{put_both, put_here, none_not_some, same?, side, upto_refl}
use Rattle.protocol.specs.declared.step.Step.{Step}
use Rattle.protocol.proofs.Model.{State, Asks, refusal, nth, asks, does, after, Clear, finish, with_leader, with_seated, append, send, proposes, fills, delivers, delivering, leader_timely_at, leader_timely_to, filled, report_line, report_all, either_way}
use Rattle.protocol.specs.declared.step.Step.TheVariants.{Lead, Prepare, Propose, Deliver}
use Rattle.protocol.proofs.TakeUp.{tally-all, tally_part, tally_grows}
use Rattle.protocol.proofs.Sound.{Passed}

module _ {X : Type 0} where
  nth_in : (xs : List X) (i : ℕ) (x : X) → nth xs i ≡ Some x → i < length xs
  nth_in [] i x h = absurd (none_not_some refl h)
  nth_in (y ∷ ys) zero x h = omega arith
  nth_in (y ∷ ys) (suc i) x h = let z = nth_in ys i x h in omega arith

  nth_left : (xs ys : List X) (i : ℕ) (x : X) → nth xs i ≡ Some x → nth (xs ++ ys) i ≡ Some x
  nth_left [] ys i x h = absurd (none_not_some refl h)
  nth_left (y ∷ xs) ys zero x h = h
  nth_left (y ∷ xs) ys (suc i) x h = nth_left xs ys i x h

  nth_right : (xs ys : List X) (i : ℕ) → nth (xs ++ ys) (length xs + i) ≡ nth ys i
  nth_right [] ys i = ap (nth ys) (let e : 0 + i ≡ i = omega arith in e)
  nth_right (y ∷ xs) ys i = ap (nth (y ∷ (xs ++ ys))) (let e : suc (length xs) + i ≡ suc (length xs + i) = omega arith in e) ∙ nth_right xs ys i

  nth_new : (xs : List X) (x : X) → nth (xs ++ (x ∷ [])) (length xs) ≡ Some x
  nth_new [] x = refl
  nth_new (y ∷ xs) x = nth_new xs x

  pub nth_some : (xs : List X) (i : ℕ) → i < length xs → is_some (nth xs i) ≡ true
  nth_some [] i h = absurd (let z : ⊥ = omega arith in z)
  nth_some (y ∷ ys) zero h = refl
  nth_some (y ∷ ys) (suc i) h = nth_some ys i (omega arith)

  length_both : (xs ys : List X) → length (xs ++ ys) ≡ length xs + length ys
  length_both [] ys = omega arith
  length_both (x ∷ xs) ys = let z = length_both xs ys in omega arith

unrefused : (qs : Asks) → Passed qs → refusal qs ≡ None
unrefused [] h = refl
unrefused (q ∷ qs) h = let t = h.0 in rw t (unrefused qs h.1)

module _ {L : Type 0} where
  timely_from : (b : Seated L) (e c : ℕ) → Upto b.s b.p e c → leader_timely_at b e c ≡ true
  timely_from b e c h = let z : (ltb e b.s || (eqb e b.s && ltb c b.p)) ≡ false = or_from (ltb e b.s) (eqb e b.s && ltb c b.p) (le-ltb e b.s h.low)
      (⊎_elim (λ eq. and_right (eqb e b.s) (ltb c b.p) (le-ltb c b.p (h.tie (omega arith)))) (λ ne. and_left (eqb e b.s) (ltb c b.p) (ne_eqb e b.s ne)) (same? e b.s)) in rw z

  timely_own : (v : Leader L) (e c : ℕ) → v.e ≡ e → v.c ≡ c → v.taken ≡ false → leader_timely_to v e c ≡ true
  timely_own v e c p q t = and_from (eqb c v.c) (eqb e v.e && not v.taken) (eq-eqb c v.c (sym q)) (and_from (eqb e v.e) (not v.taken) (eq-eqb e v.e (sym p)) (rw t))

  pub record Reach (g : State L) (i : ℕ) (qs : List (Step L)) (Φ : State L → Type 0) : Type 0 where
    pub steps : List (Step L)
    pub long : length steps ≡ i
    pub clear : Clear g steps
    pub one : proposals steps ≡ qs
    pub end : Φ (finish g steps)

  module _ {Φ : State L → Type 0} where
    pub reach_now : {g : State L} → Φ g → Reach g 0 [] Φ
    reach_now h = record { steps = []; long = refl; clear = tt; one = refl; end = h }

    pub reach_step : {g : State L} {i : ℕ} {qs : List (Step L)} (s : Step L) → Passed (asks s g) → Reach (does s g) i qs Φ → Reach g (suc i) (puts s qs) Φ
    reach_step {g} {i} {qs} s pass r =
        let n : refusal (asks s g) ≡ None = unrefused (asks s g) pass in
        let e : after s g ≡ does s g = ap (λ o. either_way o (λ i. g) (does s g)) n in
        record {
          steps = s ∷ r.steps;
          long = ap suc r.long;
          clear = (n, subst (λ x. Clear x r.steps) (sym e) r.clear);
          one = ap (puts s) r.one;
          end = subst (λ x. Φ (finish x r.steps)) (sym e) r.end;
        }

    pub reach_as : {g : State L} {i j : ℕ} {qs : List (Step L)} → i ≡ j → Reach g i qs Φ → Reach g j qs Φ
    reach_as {g} {i} {j} {qs} e r = subst (λ n. Reach g n qs Φ) e r

    pub deliver_way : {g : State L} {i : ℕ} {qs : List (Step L)} (m w : ℕ) (x : Msg L) → w < g.n → nth g.msgs m ≡ Some x → Passed (delivering g w (Some x)) → Reach (delivers w (Some x) g) i qs Φ → Reach g (suc i) qs Φ
    deliver_way {g} {i} {qs} m w x low at pass r = reach_step (Deliver m w)
        (lt-ltb w g.n low, (lt-ltb m (length g.msgs) (nth_in g.msgs m x at), subst (λ o. Passed (delivering g w o)) (sym at) pass))
        (subst (λ o. Reach (delivers w o g) i qs Φ) (sym at) r)

-- the end of the way
module _ {L : Type 0} (w x e c k : ℕ) (l : L) (line : (0 < k) × (k ≤ 64)) (pos : 0 < c) where
  abbrev Goal : State L → Type 0
  Goal g = (m : L) × (g.held w k ≡ Some m)

  fills_some : (o : Option L) (m : L) → (i : L) × (fills o m ≡ Some i)
  fills_some None m = (m, refl)
  fills_some (Some j) m = (j, refl)

  learn_way : (g : State L) (i : ℕ) (m : L) → w < g.n → nth g.msgs i ≡ Some (learn k m) → Reach g 1 [] Goal
  learn_way g i m low at = deliver_way i w (learn k m) low at tt (reach_now
      (let z = fills_some (g.held w k) m in
      (z.0, ap (λ f. f k) (put_here g.held w (put (g.held w) k (fills (g.held w k) m))) ∙ put_here (g.held w) k (fills (g.held w k) m) ∙ z.1)))

  accept_way : (g : State L) (i : ℕ) (m : L) → w < g.n → x < g.n → nth g.msgs i ≡ Some (proposal x e c k m) → Upto (g.seated x).s (g.seated x).p e c → length g.msgs < g.room → Reach g 2 [] Goal
  accept_way g i m wn xn at timely room = deliver_way i x (proposal x e c k m) xn at (eq-eqb x x refl, (timely_from (g.seated x) e c timely, (lt-ltb (length g.msgs) g.room room, tt)))
      (learn_way _ (length g.msgs) m wn (nth_new g.msgs (learn k m)))

  propose_way : (g : State L) → w < g.n → x < g.n → (g.leader w).a ≡ x → (g.leader w).e ≡ e → (g.leader w).c ≡ c → (g.leader w).taken ≡ true → Upto (g.seated x).s (g.seated x).p e c → length g.msgs + 2 ≤ g.room → Reach g 3 (Propose w k l ∷ []) Goal
  propose_way g wn xn a_is e_is c_is tk timely room = reach_step (Propose w k l)
      (lt-ltb w g.n wn, (and_from (ltb 0 k) (leb k 64) (lt-ltb 0 k line.0) (le-leb k 64 line.1), (lt-ltb 0 (g.leader w).c (omega arith), (tk, (lt-ltb (length g.msgs) g.room (omega arith), tt)))))
      (go ((g.leader w).hand k))
    where
      sent_is : (m : L) → proposal (g.leader w).a (g.leader w).e (g.leader w).c k m ≡ proposal x e c k m
      sent_is m = cc

      last : (m : L) → nth (g.msgs ++ (proposal (g.leader w).a (g.leader w).e (g.leader w).c k m ∷ [])) (length g.msgs) ≡ Some (proposal x e c k m)
      last m = nth_new g.msgs _ ∙ ap Some (sent_is m)

      more : (y : Msg L) → length (g.msgs ++ (y ∷ [])) < g.room
      more y = let z = length_both g.msgs (y ∷ []) in omega arith

      go : (o : Option L) → Reach (proposes w k l o g) 2 [] Goal
      go None = accept_way _ (length g.msgs) l wn xn (last l) timely (more _)
      go (Some m) = accept_way _ (length g.msgs) m wn xn (last m) timely (more _)

  -- the Reports: C is what the seat has accepted, V how many lines, base where the first Report stands
  module _ (C : ℕ → Option L) (V base : ℕ) (many : V ≡ tally (λ j. is_some (C j)) 64) where
    record Mid (n : ℕ) (g : State L) : Type 0 where
      wn : w < g.n
      xn : x < g.n
      a_is : (g.leader w).a ≡ x
      e_is : (g.leader w).e ≡ e
      c_is : (g.leader w).c ≡ c
      come : (g.leader w).count ≡ Some V
      when : (g.leader w).taken ≡ ready (Some V) (g.leader w).reported
      sound : (i : ℕ) → (g.leader w).reported i ≡ true → (i ≤ n) × (is_some (C i) ≡ true)
      whole : (i : ℕ) → 0 < i → i ≤ n → is_some (C i) ≡ true → (g.leader w).reported i ≡ true
      sent : (i : ℕ) (m : L) → i < 64 → C (suc i) ≡ Some m → nth g.msgs (base + tally (λ j. is_some (C j)) i) ≡ Some (report w e c (suc i) m)
      timely : Upto (g.seated x).s (g.seated x).p e c
      room : length g.msgs + 2 ≤ g.room

    F : ℕ → Bool
    F j = is_some (C j)

    -- all have come
    taken_last : (g : State L) → Mid 64 g → (g.leader w).taken ≡ true
    unfolding F
    taken_last g m =
        let up = tally_part F (g.leader w).reported 64 (λ i lo hi h. (m.sound i h).1) in
        let down = tally_part (g.leader w).reported F 64 (λ i lo hi h. m.whole i lo hi h) in
        m.when ∙ eq-eqb V (tally (g.leader w).reported 64) (omega arith)

    -- one more is to come
    not_yet : (n : ℕ) (g : State L) → Mid n g → n < 64 → is_some (C (suc n)) ≡ true → (g.leader w).taken ≡ false
    unfolding F
    not_yet n g m low h = m.when ∙ ne_eqb V (tally (g.leader w).reported 64) (λ eq.
        let z = tally-all F (g.leader w).reported 64 (λ i t. (m.sound i t).1) (sym eq ∙ many) (suc n) (omega arith, omega arith) h in
        let y = (m.sound (suc n) z).0 in omega arith)

    mid_none : (n : ℕ) (g : State L) → Mid n g → C (suc n) ≡ None → Mid (suc n) g
    mid_none n g m eq = record {
      wn = m.wn;
      xn = m.xn;
      a_is = m.a_is;
      e_is = m.e_is;
      c_is = m.c_is;
      come = m.come;
      when = m.when;
      sound = λ i h. let z = m.sound i h in (omega arith, z.1);
      whole = λ i lo hi h. ⊎_elim (λ lt. m.whole i lo (omega arith) h)
          (λ ge. absurd (let same : i ≡ suc n = omega arith in let y : is_some (C i) ≡ false = ap is_some (ap C same ∙ eq) in both_ways (is_some (C i)) y h)) (side i (suc n));
      sent = m.sent;
      timely = m.timely;
      room = m.room;
    }

    mid_some : (n : ℕ) (i : L) (g : State L) → Mid n g → C (suc n) ≡ Some i → Mid (suc n) (with_leader w (settle (reports (suc n) i (g.leader w))) g)
    mid_some n i g m eq =
        let v : Leader L = settle (reports (suc n) i (g.leader w)) in
        let v-is : put g.leader w v w ≡ v = put_here g.leader w v in
        record {
          wn = m.wn;
          xn = m.xn;
          a_is = ap (λ o. o.a) v-is ∙ m.a_is;
          e_is = ap (λ o. o.e) v-is ∙ m.e_is;
          c_is = ap (λ o. o.c) v-is ∙ m.c_is;
          come = ap (λ o. o.count) v-is ∙ m.come;
          when = ap (λ o. o.taken) v-is ∙ ap (λ o. ready o (put (g.leader w).reported (suc n) true)) m.come ∙ ap (λ o. ready (Some V) o.reported) (sym v-is);
          sound = λ j h. told j (ap (λ o. o.reported j) (sym v-is) ∙ h);
          whole = λ j lo hi h. ap (λ o. o.reported j) v-is ∙ put_both (λ t. t ≡ true) (g.leader w).reported (suc n) true j (λ here. refl) (λ apart. m.whole j lo (omega arith) h);
          sent = m.sent;
          timely = m.timely;
          room = m.room;
        }
      where
        told : (j : ℕ) → put (g.leader w).reported (suc n) true j ≡ true → (j ≤ suc n) × (is_some (C j) ≡ true)
        told j = put_both (λ t. t ≡ true → (j ≤ suc n) × (is_some (C j) ≡ true)) (g.leader w).reported (suc n) true j
            (λ here h. (omega arith, ap is_some (ap C here ∙ eq)))
            (λ apart h. let z = m.sound j h in (omega arith, z.1))

    reports_way : (t n : ℕ) (g : State L) → n + t ≡ 64 → Mid n g → Reach g ((V - tally (λ j. is_some (C j)) n) + 3) (Propose w k l ∷ []) Goal
    reports_way zero n g eq m =
        let n-is : n ≡ 64 = omega arith in
        reach_as (let z = ap (tally (λ j. is_some (C j))) n-is in omega arith)
        (propose_way g m.wn m.xn m.a_is m.e_is m.c_is (taken_last g (subst (λ i. Mid i g) n-is m)) m.timely m.room)
    reports_way (suc t) n g eq m = go (λ h. reports_way t (suc n) h (omega arith)) (C (suc n)) refl
      where
        go : ((h : State L) → Mid (suc n) h → Reach h ((V - tally (λ j. is_some (C j)) (suc n)) + 3) (Propose w k l ∷ []) Goal) → (o : Option L) → C (suc n) ≡ o → Reach g ((V - tally (λ j. is_some (C j)) n) + 3) (Propose w k l ∷ []) Goal
        go rest None at =
            let z : tally (λ j. is_some (C j)) (suc n) ≡ tally (λ j. is_some (C j)) n = ap (λ o. bump (is_some o) (tally (λ j. is_some (C j)) n)) at in
            reach_as (ap (λ i. (V - i) + 3) z) (rest g (mid_none n g m at))
        go rest (Some i) at =
            let z : tally (λ j. is_some (C j)) (suc n) ≡ suc (tally (λ j. is_some (C j)) n) = ap (λ o. bump (is_some o) (tally (λ j. is_some (C j)) n)) at in
            let top : tally (λ j. is_some (C j)) (suc n) ≤ V = (let y = tally_grows (λ j. is_some (C j)) (suc n) t in let s = ap (tally (λ j. is_some (C j))) (let q : suc n + t ≡ 64 = omega arith in q) in omega arith) in
            reach_as (omega arith)
            (deliver_way (base + tally (λ j. is_some (C j)) n) w (report w e c (suc n) i) m.wn (m.sent n i (omega arith) at)
            (eq-eqb w w refl, (timely_own (g.leader w) e c m.e_is m.c_is (not_yet n g m (omega arith) (ap is_some at)), tt))
            (rest (with_leader w (settle (reports (suc n) i (g.leader w))) g) (mid_some n i g m at)))

    promise_way : (g : State L) (i : ℕ) → w < g.n → x < g.n → (g.leader w).a ≡ x → (g.leader w).e ≡ e → (g.leader w).c ≡ c → (g.leader w).taken ≡ false → ((j : ℕ) → (g.leader w).reported j ≡ false)
        → nth g.msgs i ≡ Some (promise w e c V)
        → ((i : ℕ) (m : L) → i < 64 → C (suc i) ≡ Some m → nth g.msgs (base + tally (λ j. is_some (C j)) i) ≡ Some (report w e c (suc i) m))
        → Upto (g.seated x).s (g.seated x).p e c → length g.msgs + 2 ≤ g.room → Reach g (V + 4) (Propose w k l ∷ []) Goal
    promise_way g i wn xn a_is e_is c_is un none at sent timely room =
        let v : Leader L = settle (counts V (g.leader w)) in
        let v-is : put g.leader w v w ≡ v = put_here g.leader w v in
        reach_as (omega arith) (deliver_way i w (promise w e c V) wn at (eq-eqb w w refl, (timely_own (g.leader w) e c e_is c_is un, tt))
        (reports_way 64 0 (with_leader w v g) refl (record {
          wn = wn;
          xn = xn;
          a_is = ap (λ o. o.a) v-is ∙ a_is;
          e_is = ap (λ o. o.e) v-is ∙ e_is;
          c_is = ap (λ o. o.c) v-is ∙ c_is;
          come = ap (λ o. o.count) v-is;
          when = ap (λ o. o.taken) v-is ∙ ap (λ o. ready (Some V) o.reported) (sym v-is);
          sound = λ j h. absurd (both_ways ((g.leader w).reported j) (none j) (ap (λ o. o.reported j) (sym v-is) ∙ h));
          whole = λ j lo hi h. absurd (let z : ⊥ = omega arith in z);
          sent = sent;
          timely = timely;
          room = room;
        })))

  -- where the Reports stand
  length-reports : (C : ℕ → Option L) (n : ℕ) → length (report_all w e c C n) ≡ tally (λ j. is_some (C j)) n
  length-reports C zero = refl
  length-reports C (suc n) = length_both (report_all w e c C n) (report_line w e c (suc n) (C (suc n))) ∙ go (C (suc n)) (length-reports C n)
    where
      go : (o : Option L) → length (report_all w e c C n) ≡ tally (λ j. is_some (C j)) n → length (report_all w e c C n) + length (report_line w e c (suc n) o) ≡ bump (is_some o) (tally (λ j. is_some (C j)) n)
      go None h = omega arith
      go (Some m) h = omega arith

  report_at : (C : ℕ → Option L) (n i : ℕ) (m : L) → i < n → C (suc i) ≡ Some m → nth (report_all w e c C n) (tally (λ j. is_some (C j)) i) ≡ Some (report w e c (suc i) m)
  report_at C zero i m lt h = absurd (let z : ⊥ = omega arith in z)
  report_at C (suc n) i m lt h = ⊎_elim
      (λ less. nth_left (report_all w e c C n) (report_line w e c (suc n) (C (suc n))) _ _ (report_at C n i m less h))
      (λ ge. let same : i ≡ n = omega arith in
      subst (λ j. nth (report_all w e c C (suc n)) (tally (λ j. is_some (C j)) j) ≡ Some (report w e c (suc j) m)) (sym same) (last (subst (λ j. C (suc j) ≡ Some m) same h)))
      (side i n)
    where
      last : C (suc n) ≡ Some m → nth (report_all w e c C (suc n)) (tally (λ j. is_some (C j)) n) ≡ Some (report w e c (suc n) m)
      last eq = ap (nth (report_all w e c C (suc n))) (let z = length-reports C n in let q : tally (λ j. is_some (C j)) n ≡ length (report_all w e c C n) + 0 = omega arith in q)
          ∙ nth_right (report_all w e c C n) (report_line w e c (suc n) (C (suc n))) 0 ∙ ap (λ o. nth (report_line w e c (suc n) o) 0) eq

  prepared_way : (g : State L) (i : ℕ) → w < g.n → x < g.n → (g.leader w).a ≡ x → (g.leader w).e ≡ e → (g.leader w).c ≡ c → (g.leader w).taken ≡ false → ((j : ℕ) → (g.leader w).reported j ≡ false)
      → nth g.msgs i ≡ Some (prepare x w e c) → Upto (g.seated x).s (g.seated x).p e c → length g.msgs + filled (sits e c (g.seated x)).cells 64 + 3 ≤ g.room
      → Reach g (filled (sits e c (g.seated x)).cells 64 + 5) (Propose w k l ∷ []) Goal
  prepared_way g i wn xn a_is e_is c_is un none at timely room =
      let b : Seated L = sits e c (g.seated x) in
      let C : ℕ → Option L = b.cells in
      let V : ℕ = filled C 64 in
      let ms : List (Msg L) = promise w e c V ∷ report_all w e c C 64 in
      let b-is : put g.seated x b x ≡ b = put_here g.seated x b in
      reach_as (omega arith) (deliver_way i x (prepare x w e c) xn at
      (eq-eqb x x refl, (timely_from (g.seated x) e c timely, (lt-ltb (length g.msgs + V) g.room (omega arith), tt)))
      (promise_way C V (suc (length g.msgs)) refl (send ms (with_seated x b g)) (length g.msgs + 0) wn xn a_is e_is c_is un none
      (nth_right g.msgs ms 0)
      (λ j m lt h. ap (nth (g.msgs ++ ms)) (let q : suc (length g.msgs) + tally (λ j. is_some (C j)) j ≡ length g.msgs + suc (tally (λ j. is_some (C j)) j) = omega arith in q)
      ∙ nth_right g.msgs ms (suc (tally (λ j. is_some (C j)) j)) ∙ report_at C 64 j m lt h)
      (subst (λ o. Upto o.s o.p e c) (sym b-is) (upto_refl e c))
      (let z = length_both g.msgs ms in let y = length-reports C 64 in omega arith)))

  prepare_way : (g : State L) → w < g.n → x < g.n → (g.leader w).a ≡ x → (g.leader w).e ≡ e → (g.leader w).c ≡ c → (g.leader w).taken ≡ false → ((j : ℕ) → (g.leader w).reported j ≡ false)
      → Upto (g.seated x).s (g.seated x).p e c → length g.msgs + filled (sits e c (g.seated x)).cells 64 + 4 ≤ g.room
      → Reach g (filled (sits e c (g.seated x)).cells 64 + 6) (Propose w k l ∷ []) Goal
  prepare_way g wn xn a_is e_is c_is un none timely room =
      let y : Msg L = prepare (g.leader w).a w (g.leader w).e (g.leader w).c in
      let y-is : y ≡ prepare x w e c = cc in
      reach_as (omega arith) (reach_step (Prepare w) (lt-ltb w g.n wn, (lt-ltb 0 (g.leader w).c (omega arith), (lt-ltb (length g.msgs) g.room (omega arith), tt)))
      (prepared_way (send (y ∷ []) g) (length g.msgs) wn xn a_is e_is c_is un none (nth_new g.msgs y ∙ ap Some y-is) timely (let z = length_both g.msgs (y ∷ []) in omega arith)))

  pub lead_way : (g : State L) → w < g.n → x < g.n → g.opened ≡ true → length g.roster < g.cap → (g.leader w).r ≡ length g.roster → (g.leader w).a ≡ x → (g.leader w).e ≡ e → 0 < e → c ≡ suc (length g.roster) → (w ≡ x → ⊥)
      → Upto (g.seated x).s (g.seated x).p e c → length g.msgs + filled (sits e c (g.seated x)).cells 64 + 4 ≤ g.room
      → Reach g (filled (sits e c (g.seated x)).cells 64 + 7) (Propose w k l ∷ []) Goal
  lead_way g wn xn opn free r-is a_is e_is low c_is apart timely room =
      let v : Leader L = leads (g.leader w) in
      let v-is : put g.leader w v w ≡ v = put_here g.leader w v in
      let other : eqb w (g.leader w).a ≡ false = ne_eqb w (g.leader w).a (λ h. apart (h ∙ a_is)) in
      reach_as (omega arith) (reach_step (Lead w)
      (lt-ltb w g.n wn, (lt-ltb 0 (g.leader w).e (omega arith), ((rw other), (opn, (eq-eqb (suc (g.leader w).r) (suc (length g.roster)) (omega arith), (lt-ltb (length g.roster) g.cap free, tt))))))
      (prepare_way (with_leader w v (append (lead w) g)) wn xn (ap (λ o. o.a) v-is ∙ a_is) (ap (λ o. o.e) v-is ∙ e_is) (ap (λ o. o.c) v-is ∙ (let q : suc (g.leader w).r ≡ c = omega arith in q))
      (ap (λ o. o.taken) v-is) (λ j. ap (λ o. o.reported j) v-is) timely room))

-- Every run is sound, and so its workers agree.
use Rattle.std.proofs.Common.{◌≡◌, ℕ, suc, ◌<◌, ◌≤◌, Bool, true, false, not, ◌&&◌, eqb, ltb, List, [], ◌∷◌, ◌++◌, length, Some, None, Option, sym, refl, ◌∙◌, subst, inl, inr, ⊎_elim, arith, is_some}
use Rattle.std.proofs.lemmas.Bool.{both_ways, ltb-true, eqb-true, eq-eqb, not-true, and_parts, or_cases, or_left, or_right, and_from}
use Rattle.roster.specs.declared.entry.Entry.{Entry}
use Rattle.protocol.specs.Words.{At, Proposed, under}
use Rattle.roster.specs.declared.entry.Entry.TheVariants.{Lead as lead, Seat as seat, Carry as carry}
use Rattle.protocol.proofs.Places.{length_more, at_low, at_high, at_grow, at_last, at_old, same_seat}
use Rattle.protocol.proofs.Inv.{Facts, Add, Counts, NoneSent, MsgOk, HasPromised}
use Rattle.protocol.proofs.Msg.{Msg}
use Rattle.protocol.proofs.Msg.Msg.{prepare, proposal, promise, report, learn}
use Rattle.protocol.proofs.Put.{put}
use Rattle.protocol.proofs.Roles.{Seated, Leader, settle, counts, reports, sits, accepts}
use Rattle.protocol.proofs.Tools.{put_both, none_not_some, some_same, add_case, side, order, weaker, some_is}
use Rattle.protocol.specs.declared.step.Step.{Step}
use Rattle.protocol.proofs.Model.{State, refusal, nth, asks, does, answers, answer, after, note, made, mark, accepted_by, Run, Agreement, with_seated, with_msgs, proposes, carrying, fills, delivers, delivering, leader_timely_to, either_way}
use Rattle.protocol.specs.declared.step.Step.TheVariants.{Found, Read, Lead, Prepare, Propose, Carry, Reseat, Deliver, Lose}
use Rattle.protocol.proofs.Model.Said.{No}
use Rattle.protocol.proofs.Model.Run.{start, next, owner}
use Rattle.protocol.proofs.Append.{carry_is_seat, seat_is_lead}
use Rattle.protocol.proofs.TakeUp.{settle_ok, count_ok, report_ok}
use Rattle.protocol.proofs.Sound.{Sound, Extra, Lives, Passed, passed, each_nth, leader_sound}
use Rattle.protocol.proofs.Steps.{line_range, timely_order, timely_parts, found_sound, read_sound, lead_sound, carry_sound, reseat_sound, prepare_sound, lose_sound}
use Rattle.protocol.proofs.Sends.{propose_sound, prepared_sound, accepted_sound}

module _ {L : Type 0} {A : Facts L} {g : State L} where
  extra_accepted : {hs : List (ℕ × ℕ)} (e c k : ℕ) (l : L) → Extra A g hs → Extra (Add A e c k l) g ((e, k) ∷ hs)
  extra_accepted {hs} e c k l ex = record {
    first = ex.first;
    staff = ex.staff;
    promised = ex.promised;
    noted = λ f d j m h. add_case {P = A} (λ f d j m. under f j ((e, k) ∷ hs) ≡ true) (λ f d j m a. or_right (eqb f e && eqb j k) (under f j hs) (ex.noted f d j m a))
        (or_left (eqb e e && eqb k k) (under e k hs) (and_from (eqb e e) (eqb k k) (eq-eqb e e refl) (eq-eqb k k refl))) h;
    listed = λ f j h. ⊎_elim
        (λ t. let z = and_parts (eqb f e) (eqb j k) t in (c, l, inr (eqb-true f e z.0, refl, eqb-true j k z.1, refl)))
        (λ t. let z = ex.listed f j t in (z.0, z.1, inl z.2))
        (or_cases (eqb f e && eqb j k) (under f j hs) h);
  }

  pub same_extra : {hs : List (ℕ × ℕ)} {v : ℕ → Leader L} {held : ℕ → ℕ → Option L} {ms : List (Msg L)} {o : Bool} → Extra A g hs
      → Extra A (record { n = g.n; room = g.room; leader = v; seated = g.seated; held = held; msgs = ms; roster = g.roster; cap = g.cap; opened = o }) hs
  same_extra ex = record { first = ex.first; staff = ex.staff; promised = ex.promised; noted = ex.noted; listed = ex.listed }

  pub extra_propose : {hs : List (ℕ × ℕ)} (w k : ℕ) (l : L) → Extra A g hs → (o : Option L) → Extra A (proposes w k l o g) hs
  extra_propose w k l ex None = same_extra ex
  extra_propose w k l ex (Some m) = same_extra ex

seat_line : {L : Type 0} {x y : ℕ} → ◌≡◌ {A = Entry L} (seat x) (seat y) → x ≡ y
seat_line h = cc

module _ {L : Type 0} {P A : Facts L} {g : State L} {ps : List (ℕ × L)} (ok : Sound P A g ps) where
  pub learn_sound : (w k : ℕ) (l : L) → (e : ℕ) × (c : ℕ) × A e c k l → Sound P A (delivers w (Some (learn k l)) g) ps
  learn_sound w k l acc = record {
    global = ok.global;
    leaders = ok.leaders;
    seats = ok.seats;
    messages = ok.messages;
    learned = λ u j m. put_both (λ o. o j ≡ Some m → (e : ℕ) × (c : ℕ) × A e c j m) g.held w (put (g.held w) k (fills (g.held w k) l)) u
        (λ here. put_both (λ o. o ≡ Some m → (e : ℕ) × (c : ℕ) × A e c j m) (g.held w) k (fills (g.held w k) l) j
        (λ at h. filled_by (g.held w k) refl at h) (λ apart h. ok.learned w j m h))
        (λ apart h. ok.learned u j m h);
    said = ok.said;
    in_hand = ok.in_hand;
    in_roster = ok.in_roster;
    numbered = ok.numbered;
  }
    where
      filled_by : (o : Option L) → g.held w k ≡ o → {j : ℕ} {m : L} → j ≡ k → fills o l ≡ Some m → (e : ℕ) × (c : ℕ) × A e c j m
      filled_by None eq {j} {m} at h = (acc.0, acc.1, subst (λ i. A acc.0 acc.1 i m) (sym at) (subst (λ i. A acc.0 acc.1 k i) (some_same refl h) acc.2))
      filled_by (Some i) eq {j} {m} at h = ok.learned w j m (subst (λ q. g.held w q ≡ Some m) (sym at) (eq ∙ h))

  -- a Promise or a Report at its worker
  pub counted_sound : (w e c n : ℕ) → MsgOk g.roster P A g.seated (promise w e c n) → leader_timely_to (g.leader w) e c ≡ true → Sound P A (delivers w (Some (promise w e c n)) g) ps
  counted_sound w e c n m t =
      let v = g.leader w in
      let z = timely_parts v e c t in
      let has : 0 < v.c = (let q = z.0 in let y = m.4 in omega arith) in
      let at : At g.roster v.e (seat m.0) = subst (λ i. At g.roster i (seat m.0)) z.1 m.1 in
      let x-is = same_seat at ((ok.leaders w).seat_at ((ok.leaders w).claim has).sits) in
      let past : HasPromised g.seated v.a v.e v.c = subst (λ i. HasPromised g.seated i v.e v.c) x-is (subst (λ i. HasPromised g.seated m.0 i v.c) z.1 (subst (λ i. HasPromised g.seated m.0 e i) z.0 m.2)) in
      let right : NoneSent P v.e v.c → Counts A v.e v.c n = subst (λ i. NoneSent P i v.c → Counts A i v.c n) z.1 (subst (λ i. NoneSent P e i → Counts A e i n) z.0 m.3) in
      leader_sound ok w (settle (counts n v)) (settle_ok ok.global (count_ok ok.global (ok.leaders w) has z.2 n past right) has z.2) (ok.in_hand w)

  pub reported_sound : (w e c k : ℕ) (l : L) → MsgOk g.roster P A g.seated (report w e c k l) → leader_timely_to (g.leader w) e c ≡ true → Sound P A (delivers w (Some (report w e c k l)) g) ps
  reported_sound w e c k l m t =
      let v = g.leader w in
      let z = timely_parts v e c t in
      let has : 0 < v.c = (let q = z.0 in let y = m.3 in omega arith) in
      let a : A v.e m.0 k l = subst (λ i. A i m.0 k l) z.1 m.2 in
      let le : m.0 ≤ v.c = (let q = z.0 in let y = m.1 in omega arith) in
      leader_sound ok w (settle (reports k l v)) (settle_ok ok.global (report_ok ok.global (ok.leaders w) has z.2 k m.0 l le a) has z.2)
      (λ j i. put_both (λ o. o ≡ Some i → Proposed ps j i) v.hand k (Some l) j
      (λ here h. subst (λ q. Proposed ps q i) (sym here) (subst (λ q. Proposed ps k q) (some_same refl h) (ok.said v.e m.0 k l (ok.global.sent a))))
      (λ apart h. ok.in_hand w j i h))

  -- the roster gains an entry
  extra_grow : {hs : List (ℕ × ℕ)} (n : Entry L) (v : ℕ → Leader L) → Extra A g hs → (length g.roster ≡ 0 → (x : ℕ) × (n ≡ seat x)) → ((x : ℕ) → seat x ≡ n → x < g.n)
      → Extra A (record { n = g.n; room = g.room; leader = v; seated = g.seated; held = g.held; msgs = g.msgs; roster = g.roster ++ (n ∷ []); cap = g.cap; opened = g.opened }) hs
  extra_grow n v ex one low = record {
    first = λ h. ⊎_elim (λ lt. let z = ex.first lt in (z.0, at_grow n z.1))
        (λ ge. let e : length g.roster ≡ 0 = omega arith in let z = one e in (z.0, subst (λ i. At (g.roster ++ (n ∷ [])) 1 i) z.1 (subst (λ i. At (g.roster ++ (n ∷ [])) (suc i) n) e (at_last g.roster n))))
        (side 0 (length g.roster));
    staff = λ q x h. ⊎_elim (ex.staff q x) (λ z. low x z.1) (at_old g.roster n h);
    promised = λ x. let z = ex.promised x in let y = length_more g.roster n in omega arith;
    noted = ex.noted;
    listed = ex.listed;
  }

  -- a worker that has read a Seat, on an empty roster
  not_empty : {X : Type 0} (w : ℕ) → 0 < (g.leader w).e → length g.roster ≡ 0 → X
  not_empty w h e = absurd (let z = at_high ((ok.leaders w).seat_at h) in let y : ⊥ = omega arith in y)

  extra_prepared : {hs : List (ℕ × ℕ)} (w e c : ℕ) (b : Seated L) (ms : List (Msg L)) → b.p ≤ length g.roster → Extra A g hs → Extra A (with_msgs ms (with_seated w b g)) hs
  extra_prepared w e c b ms le ex = record {
    first = ex.first;
    staff = ex.staff;
    promised = λ x. put_both (λ o. o.p ≤ length g.roster) g.seated w b x (λ here. le) (λ apart. ex.promised x);
    noted = ex.noted;
    listed = ex.listed;
  }

  pub deliver_sound : (hs : List (ℕ × ℕ)) → Extra A g hs → (w : ℕ) (o : Option (Msg L)) → ((x : Msg L) → o ≡ Some x → MsgOk g.roster P A g.seated x) → Passed (delivering g w o) → Lives (delivers w o g) ps (accepted_by o hs)
  deliver_sound hs ex w None h pass = (P, A, ok, ex)
  deliver_sound hs ex w (Some (prepare to from e c)) h pass =
      let m = h (prepare to from e c) refl in
      let eq : to ≡ w = eqb-true to w pass.0 in
      let at : At g.roster e (seat w) = subst (λ i. At g.roster e (seat i)) eq m.0 in
      (P, A, prepared_sound ok w e c at (timely_order (g.seated w) e c pass.1.0) from (at_low m.1), extra_prepared w e c (sits e c (g.seated w)) _ (at_high m.1) ex)
  deliver_sound hs ex w (Some (proposal to e c k l)) h pass =
      let m = h (proposal to e c k l) refl in
      let eq : to ≡ w = eqb-true to w pass.0 in
      let at : At g.roster e (seat w) = subst (λ i. At g.roster e (seat i)) eq m.0 in
      let ex' = extra_accepted e c k l (extra_prepared w e c (accepts k l (sits e c (g.seated w))) (g.msgs ++ (learn k l ∷ [])) (at_high (ok.global.valid m.1).lead_at) ex) in
      (P, Add A e c k l, accepted_sound ok w e c at (timely_order (g.seated w) e c pass.1.0) k l m.1, ex')
  deliver_sound hs ex w (Some (promise to e c n)) h pass = (P, A, counted_sound w e c n (h (promise to e c n) refl) pass.1.0, record { first = ex.first; staff = ex.staff; promised = ex.promised; noted = ex.noted; listed = ex.listed })
  deliver_sound hs ex w (Some (report to e c k l)) h pass = (P, A, reported_sound w e c k l (h (report to e c k l) refl) pass.1.0, record { first = ex.first; staff = ex.staff; promised = ex.promised; noted = ex.noted; listed = ex.listed })
  deliver_sound hs ex w (Some (learn k l)) h pass = (P, A, learn_sound w k l (h (learn k l) refl), record { first = ex.first; staff = ex.staff; promised = ex.promised; noted = ex.noted; listed = ex.listed })

module _ {L : Type 0} where
  does_lives : (g : State L) (ps : List (ℕ × L)) (hs : List (ℕ × ℕ)) (s : Step L) → Passed (asks s g) → Lives g ps hs → Lives (does s g) (note s (answers s g) ps) (mark s g (answers s g) hs)
  does_lives g ps hs (Found a) pass h = (h.0, h.1, found_sound h.2 a pass, extra_grow h.2 (seat a) g.leader h.3 (λ e. (a, refl)) (λ x eq. let z : x ≡ a = seat_line eq in let y = ltb-true a g.n pass.0 in omega arith))
  does_lives g ps hs (Read w) pass h = (h.0, h.1, read_sound h.2 w, same_extra h.3)
  does_lives g ps hs (Lead w) pass h =
      let sat = ltb-true 0 (g.leader w).e pass.1.0 in
      (h.0, h.1, lead_sound h.2 w pass.1.1.1 sat, extra_grow h.2 (lead w) _ h.3 (not_empty h.2 w sat) (λ x eq. seat_is_lead eq))
  does_lives g ps hs (Prepare w) pass h = (h.0, h.1, prepare_sound h.2 w (ltb-true 0 (g.leader w).c pass.1.0), same_extra h.3)
  does_lives g ps hs (Propose w k l) pass h =
      let z = propose_sound h.2 w k (line_range k pass.1.0) (ltb-true 0 (g.leader w).c pass.1.1.0) pass.1.1.1.0 l ((g.leader w).hand k) refl in
      (z.0, h.1, z.1, extra_propose w k l h.3 ((g.leader w).hand k))
  does_lives g ps hs (Carry w k) pass h =
      let z = and_parts (is_some ((g.leader w).hand k)) (not ((g.leader w).carried k)) pass.1.1.1.1.0 in
      let y = some_is ((g.leader w).hand k) z.0 in
      let has = ltb-true 0 (g.leader w).c pass.1.1.0 in (
        h.0,
        h.1,
        subst (λ o. Sound h.0 h.1 (carrying w k o g) ps) (sym y.1)
            (carry_sound h.2 w pass.1.1.1.1.1 has pass.1.1.1.0 k y.0 y.1 (not-true ((g.leader w).carried k) z.1)),
        subst (λ o. Extra h.1 (carrying w k o g) hs) (sym y.1) (extra_grow h.2 (carry k y.0) _ h.3 (not_empty h.2 w ((h.2.leaders w).claim has).sits) (λ x eq. carry_is_seat (sym eq))),
      )
  does_lives g ps hs (Reseat w b) pass h =
      let has = ltb-true 0 (g.leader w).c pass.1.0 in (
        h.0,
        h.1,
        reseat_sound h.2 w pass.1.1.1.1.1 has pass.1.1.0 b pass.1.1.1.1.0,
        extra_grow h.2 (seat b) _ h.3 (λ e. (b, refl)) (λ x eq. let z : x ≡ b = seat_line eq in let y = ltb-true b g.n (and_parts (ltb w g.n) (ltb b g.n) pass.0).1 in omega arith),
      )
  does_lives g ps hs (Deliver m w) pass h = deliver_sound h.2 hs h.3 w (nth g.msgs m) (λ x eq. each_nth (MsgOk g.roster h.0 h.1 g.seated) g.msgs m x h.2.messages eq) pass.1.1
  does_lives g ps hs (Lose m) pass h = (h.0, h.1, lose_sound h.2 m, same_extra h.3)

  -- a refused step changes nothing
  none_noted : (ps : List (ℕ × L)) (i : ℕ) (s : Step L) → note s (No i) ps ≡ ps
  none_noted ps i (Found a) = refl
  none_noted ps i (Read w) = refl
  none_noted ps i (Lead w) = refl
  none_noted ps i (Prepare w) = refl
  none_noted ps i (Propose w k l) = refl
  none_noted ps i (Carry w k) = refl
  none_noted ps i (Reseat w b) = refl
  none_noted ps i (Deliver m w) = refl
  none_noted ps i (Lose m) = refl

  none-marked : (g : State L) (hs : List (ℕ × ℕ)) (i : ℕ) (s : Step L) → mark s g (No i) hs ≡ hs
  none-marked g hs i (Found a) = refl
  none-marked g hs i (Read w) = refl
  none-marked g hs i (Lead w) = refl
  none-marked g hs i (Prepare w) = refl
  none-marked g hs i (Propose w k l) = refl
  none-marked g hs i (Carry w k) = refl
  none-marked g hs i (Reseat w b) = refl
  none-marked g hs i (Deliver m w) = refl
  none-marked g hs i (Lose m) = refl

  after_lives : (g : State L) (ps : List (ℕ × L)) (hs : List (ℕ × ℕ)) (s : Step L) → Lives g ps hs → Lives (after s g) (note s (answer s g) ps) (mark s g (answer s g) hs)
  after_lives g ps hs s h = go (refusal (asks s g)) refl
    where
      go : (o : Option ℕ) → refusal (asks s g) ≡ o → Lives (either_way o (λ i. g) (does s g)) (note s (either_way o No (answers s g)) ps) (mark s g (either_way o No (answers s g)) hs)
      go None eq = does_lives g ps hs s (passed (asks s g) eq) h
      go (Some i) eq = subst (λ q. Lives g q (mark s g (No i) hs)) (sym (none_noted ps i s)) (subst (λ q. Lives g ps q) (sym (none-marked g hs i s)) h)

  made_lives : (n room cap : ℕ) (opened : Bool) → Lives (made {L = L} n room cap opened) [] []
  made_lives n room cap opened = (
    (λ e c k l. ⊥),
    (λ e c k l. ⊥),
    record {
      global = record {
        valid = λ h. absurd h;
        ranged = λ h. absurd h;
        one = λ h i. absurd h;
        sent = λ h. absurd h;
        past = λ h s. absurd h;
        main = λ h i le. absurd h;
        carry_or = λ s h lt at. absurd h;
        carry_acc = λ s h lt. absurd h;
        under_seat = λ h at lt. absurd h;
        under_lead = λ h at lt. absurd h;
        own_carry = λ h at lt none. absurd h;
        carry_one = λ h i. absurd h.here;
        acc_carry = λ h at. absurd h;
        prop_past = λ h lt at. absurd h;
        seat_past = λ s d lt none at qu lt2. absurd s.here;
      };
      leaders = λ w. record {
        fits = omega arith;
        seat_read = omega arith;
        seat_at = λ h. absurd (let z : ⊥ = omega arith in z);
        newest = λ q u i j h. h.here;
        marked = λ h. absurd (both_ways false refl h);
        carries = λ le h. absurd h.here;
        idle = λ h. absurd (both_ways false refl h);
        claim = λ h. absurd (let z : ⊥ = omega arith in z);
      };
      seats = λ x. record { sits = λ h. absurd (let z : ⊥ = omega arith in z); has = λ h. absurd (none_not_some refl h); keeps = λ h eq. h };
      messages = tt;
      learned = λ w k l h. absurd (none_not_some refl h);
      said = λ e c k l h. absurd h;
      in_hand = λ w k l h. absurd (none_not_some refl h);
      in_roster = λ q k l h. absurd h.here;
      numbered = λ k l h. absurd h;
    },
    record {
      first = λ h. absurd (let z : ⊥ = omega arith in z);
      staff = λ q x h. absurd h.here;
      promised = λ x. omega arith;
      noted = λ e c k l h. absurd h;
      listed = λ e k h. absurd (both_ways false refl h);
    },
  )

  pub run_lives : {g : State L} {ps : List (ℕ × L)} {hs : List (ℕ × ℕ)} → Run L g ps hs → Lives g ps hs
  run_lives (start n room top opened) = made_lives n room top opened
  run_lives (next {g = g} {ps = ps} {hs = hs} r s) = after_lives g ps hs s (run_lives r)
  run_lives (owner {g = g} {ps = ps} r b) =
      let h = run_lives r in
      let ok = h.2 in
      (h.0, h.1, record { global = ok.global; leaders = ok.leaders; seats = ok.seats; messages = ok.messages; learned = ok.learned; said = ok.said; in_hand = ok.in_hand; in_roster = ok.in_roster; numbered = ok.numbered }, same_extra h.3)

  -- two accepted lines of one number are one
  acc_one : {P A : Facts L} {g : State L} {ps : List (ℕ × L)} → Sound P A g ps → {e c f d k : ℕ} {l m : L} → A e c k l → A f d k m → l ≡ m
  acc_one ok {e} {c} {f} {d} a b = ⊎_elim (λ le. ok.global.main a (ok.global.sent b) le) (λ lt. sym (ok.global.main b (ok.global.sent a) (weaker lt))) (order e c f d)

  fills_keeps : (o : Option L) (l m : L) → o ≡ Some m → fills o l ≡ Some m
  fills_keeps None l m h = absurd (none_not_some refl h)
  fills_keeps (Some i) l m h = h

  delivers_keeps : (g : State L) (v : ℕ) (o : Option (Msg L)) (w k : ℕ) (l : L) → g.held w k ≡ Some l → (delivers v o g).held w k ≡ Some l
  delivers_keeps g v None w k l h = h
  delivers_keeps g v (Some (prepare to from e c)) w k l h = h
  delivers_keeps g v (Some (proposal to e c j m)) w k l h = h
  delivers_keeps g v (Some (promise to e c n)) w k l h = h
  delivers_keeps g v (Some (report to e c j m)) w k l h = h
  delivers_keeps g v (Some (learn j m)) w k l h = put_both (λ o. o k ≡ Some l) g.held v (put (g.held v) j (fills (g.held v j) m)) w
      (λ here. let h' : g.held v k ≡ Some l = subst (λ i. g.held i k ≡ Some l) here h in
      put_both (λ o. o ≡ Some l) (g.held v) j (fills (g.held v j) m) k (λ at. fills_keeps (g.held v j) m l (subst (λ i. g.held v i ≡ Some l) at h')) (λ apart. h'))
      (λ apart. h)

  proposes_keeps : (g : State L) (v j : ℕ) (m : L) (o : Option L) (w k : ℕ) (l : L) → g.held w k ≡ Some l → (proposes v j m o g).held w k ≡ Some l
  proposes_keeps g v j m None w k l h = h
  proposes_keeps g v j m (Some i) w k l h = h

  carrying_keeps : (g : State L) (v j : ℕ) (o : Option L) (w k : ℕ) (l : L) → g.held w k ≡ Some l → (carrying v j o g).held w k ≡ Some l
  carrying_keeps g v j None w k l h = h
  carrying_keeps g v j (Some i) w k l h = h

  does_keeps : (g : State L) (s : Step L) (w k : ℕ) (l : L) → g.held w k ≡ Some l → (does s g).held w k ≡ Some l
  does_keeps g (Found a) w k l h = h
  does_keeps g (Read v) w k l h = h
  does_keeps g (Lead v) w k l h = h
  does_keeps g (Prepare v) w k l h = h
  does_keeps g (Propose v j m) w k l h = proposes_keeps g v j m ((g.leader v).hand j) w k l h
  does_keeps g (Carry v j) w k l h = carrying_keeps g v j ((g.leader v).hand j) w k l h
  does_keeps g (Reseat v b) w k l h = h
  does_keeps g (Deliver m v) w k l h = delivers_keeps g v (nth g.msgs m) w k l h
  does_keeps g (Lose m) w k l h = h

  after_keeps : (g : State L) (s : Step L) (w k : ℕ) (l : L) → g.held w k ≡ Some l → (after s g).held w k ≡ Some l
  after_keeps g s w k l h = go (refusal (asks s g))
    where
      go : (o : Option ℕ) → (either_way o (λ i. g) (does s g)).held w k ≡ Some l
      go None = does_keeps g s w k l h
      go (Some i) = h

pub agreement : (L : Type 0) → Agreement L
agreement L g ps hs r =
    let z = run_lives r in
    let ok = z.2 in
    record {
      same = λ w u k l m h i. acc_one ok (ok.learned w k l h).2 (ok.learned u k m i).2;
      proposed = λ w k l h. let y = ok.learned w k l h in ok.said y.0 y.1 k l (ok.global.sent y.2);
      stays = after_keeps g;
    }

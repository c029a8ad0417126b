-- Each step that is not refused keeps what holds.
use Rattle.std.proofs.Common.{◌≡◌, ℕ, zero, suc, ◌-◌, ◌<◌, ◌≤◌, true, false, cond, not, ◌&&◌, ◌||◌, eqb, ltb, leb, List, [], ◌∷◌, ◌++◌, length, set, Some, None, Option, sym, refl, ap, ◌∙◌, subst, ⊎_elim, arith, is_some}
use Rattle.std.proofs.lemmas.Bool.{both_ways, ltb-true, ltb-false, leb-true, eqb-true, eq-eqb, not-true, and_parts, or_parts, and_cases, cond_both}
use Rattle.roster.specs.declared.entry.Entry.{Entry}
use Rattle.protocol.specs.Words.{At, Proposed, Stands}
use Rattle.roster.specs.declared.entry.Entry.TheVariants.{Lead as lead, Seat as seat, Carry as carry}
use Rattle.protocol.proofs.Places.{at_low, at_high}
use Rattle.protocol.proofs.Inv.{Facts, MsgOk, Upto}
use Rattle.protocol.proofs.Msg.{Msg}
use Rattle.protocol.proofs.Msg.Msg.{prepare}
use Rattle.protocol.proofs.Roles.{Seated, Leader, read_lead, read_seat, read_carry, leads, carries, sits}
use Rattle.protocol.proofs.Tools.{put_both, none_not_some, some_same, side}
use Rattle.protocol.proofs.Model.{State, nth, asks, does, with_leader, append, reads, lose_at, line_ok, leader_all_marked, leader_timely_at, leader_timely_to, appending}
use Rattle.protocol.specs.declared.step.Step.TheVariants.{Found, Read, Lead, Prepare, Reseat, Lose}
use Rattle.protocol.proofs.Append.{fresh_lead, fresh_first, fresh_carry, fresh_seat, other_claims, carry_line, carry_is_lead, carry_is_seat}
use Rattle.protocol.proofs.Read.{reads_lead, reads_seat, reads_carry, own_lead, own_carry, own_seat}
use Rattle.protocol.proofs.Sound.{Sound, Each, Passed, each_append, each_nth, each_set, each_take, leader_sound, append_sound, own_sound, msgs_sound}

nth_at : {L : Type 0} (R : List (Entry L)) (i : ℕ) (y : Entry L) → nth R i ≡ Some y → Stands R (suc i) y
nth_at [] i y h = absurd (none_not_some refl h)
nth_at (x ∷ xs) zero y h = some_same h refl
nth_at (x ∷ xs) (suc i) y h = nth_at xs i y h

pub line_range : (k : ℕ) → line_ok k ≡ true → (0 < k) × (k ≤ 64)
line_range k h = let z = and_parts (ltb 0 k) (leb k 64) h in (ltb-true 0 k z.0, leb-true k 64 z.1)

module _ {L : Type 0} where
  marked_all : (v : Leader L) (n : ℕ) → leader_all_marked v n ≡ true → (k : ℕ) → (0 < k) × (k ≤ n) → (l : L) → v.hand k ≡ Some l → v.carried k ≡ true
  marked_all v zero h k low l at = absurd (let z : ⊥ = omega arith in z)
  marked_all v (suc n) h k low l at =
      let z = and_parts (cond (is_some (v.hand (suc n))) (v.carried (suc n)) true) (leader_all_marked v n) h in
      ⊎_elim (λ less. marked_all v n z.1 k (low.0, omega arith) l at) (λ ge. last (let e : k ≡ suc n = omega arith in e) z.0) (side k (suc n))
    where
      last : k ≡ suc n → cond (is_some (v.hand (suc n))) (v.carried (suc n)) true ≡ true → v.carried k ≡ true
      last e t =
          let at' : v.hand (suc n) ≡ Some l = subst (λ i. v.hand i ≡ Some l) e at in
          subst (λ i. v.carried i ≡ true) (sym e) (let q : cond (is_some (v.hand (suc n))) (v.carried (suc n)) true ≡ v.carried (suc n) = rw at' in sym q ∙ t)

  pub timely_order : (b : Seated L) (e c : ℕ) → leader_timely_at b e c ≡ true → Upto b.s b.p e c
  timely_order b e c h =
      let z = or_parts (ltb e b.s) (eqb e b.s && ltb c b.p) (not-true (ltb e b.s || (eqb e b.s && ltb c b.p)) h) in
      let low : b.s ≤ e = ltb-false e b.s z.0 in
      record {
        low = low;
        tie = λ le. ⊎_elim
            (λ f. absurd (both_ways (eqb e b.s) f (eq-eqb e b.s (omega arith))))
            (λ f. ltb-false c b.p f)
            (and_cases (eqb e b.s) (ltb c b.p) z.1);
      }

  pub timely_parts : (v : Leader L) (e c : ℕ) → leader_timely_to v e c ≡ true → (c ≡ v.c) × (e ≡ v.e) × (v.taken ≡ false)
  timely_parts v e c h =
      let z = and_parts (eqb c v.c) (eqb e v.e && not v.taken) h in
      let y = and_parts (eqb e v.e) (not v.taken) z.1 in
      (eqb-true c v.c z.0, eqb-true e v.e y.0, not-true v.taken y.1)

module _ {L : Type 0} {P A : Facts L} {g : State L} {ps : List (ℕ × L)} (ok : Sound P A g ps) where
  no_entry : {X : Type 0} {p : ℕ} {y : Entry L} → length g.roster ≡ 0 → At g.roster p y → X
  no_entry e h = absurd (let i = at_low h in let j = at_high h in let z : ⊥ = omega arith in z)

  pub found_sound : (a : ℕ) → Passed (asks (Found a) g) → Sound P A (does (Found a) g) ps
  found_sound a pass =
      let e : 1 ≡ suc (length g.roster) = eqb-true 1 (suc (length g.roster)) pass.1.1.0 in
      append_sound ok (seat a) (fresh_first a ok.global (omega arith)) (λ u h last. no_entry (omega arith) ((ok.leaders u).claim h).mine) (λ k l eq. carry_is_seat eq)

  pub read_sound : (w : ℕ) → Sound P A (does (Read w) g) ps
  read_sound w = go (nth g.roster (g.leader w).r) refl
    where
      go : (o : Option (Entry L)) → nth g.roster (g.leader w).r ≡ o → Sound P A (with_leader w (reads o (g.leader w)) g) ps
      go None eq = leader_sound ok w (g.leader w) (ok.leaders w) (ok.in_hand w)
      go (Some (lead u)) eq = leader_sound ok w (read_lead (g.leader w)) (reads_lead ok.global (ok.leaders w) (record { here = nth_at g.roster (g.leader w).r (lead u) eq })) (ok.in_hand w)
      go (Some (seat x)) eq = leader_sound ok w (read_seat x (g.leader w)) (reads_seat ok.global (ok.leaders w) (record { here = nth_at g.roster (g.leader w).r (seat x) eq })) (ok.in_hand w)
      go (Some (carry k l)) eq =
          let at : At g.roster (suc (g.leader w).r) (carry k l) = record { here = nth_at g.roster (g.leader w).r (carry k l) eq } in
          leader_sound ok w (read_carry k l (g.leader w)) (reads_carry ok.global (ok.leaders w) at)
          (λ j m. put_both (λ o. o ≡ Some m → Proposed ps j m) (g.leader w).hand k (Some l) j
          (λ here h. subst (λ i. Proposed ps i m) (sym here) (subst (λ i. Proposed ps k i) (some_same refl h) (ok.in_roster (suc (g.leader w).r) k l at)))
          (λ apart h. ok.in_hand w j m h))

  module _ (w : ℕ) (app : Passed (appending g (suc (g.leader w).r))) where
    at_end : (g.leader w).r ≡ length g.roster
    at_end = let e = eqb-true (suc (g.leader w).r) (suc (length g.roster)) app.1.0 in omega arith

    pub lead_sound : 0 < (g.leader w).e → Sound P A (does (Lead w) g) ps
    lead_sound sits = own_sound ok (lead w) w (leads (g.leader w)) (fresh_lead w) (own_lead ok.global (ok.leaders w) at_end sits) (λ u apart h last. (w, refl))
        (λ k l. cond_both ((g.leader w).carried k) ((g.leader w).hand k) None (λ o. o ≡ Some l → Proposed ps k l) (λ t h. ok.in_hand w k l h) (λ t h. absurd (none_not_some refl h)))
        (λ k l eq. carry_is_lead eq)

    module _ (has : 0 < (g.leader w).c) (tk : (g.leader w).taken ≡ true) where
      others : {n : Entry L} (u : ℕ) → (u ≡ w → ⊥) → 0 < (g.leader u).c → (g.leader u).r ≡ length g.roster → (i : ℕ) × (n ≡ lead i)
      others u apart h last = absurd (apart (sym (other_claims ok.global (ok.leaders w) has tk at_end (ok.leaders u) h last)))

      pub carry_sound : (k : ℕ) (l : L) → (g.leader w).hand k ≡ Some l → (g.leader w).carried k ≡ false → Sound P A (with_leader w (carries k (g.leader w)) (append (carry k l) g)) ps
      carry_sound k l inhand un = own_sound ok (carry k l) w (carries k (g.leader w)) (fresh_carry ok.global (ok.leaders w) has tk at_end k l inhand un)
          (own_carry ok.global (ok.leaders w) at_end has tk k l inhand un) others (ok.in_hand w)
          (λ j m eq. let z = carry_line eq in ok.in_hand w j m (subst (λ i. (g.leader w).hand i ≡ Some m) (sym z.0) (inhand ∙ ap Some (sym z.1))))

      pub reseat_sound : (b : ℕ) → leader_all_marked (g.leader w) 64 ≡ true → Sound P A (does (Reseat w b) g) ps
      reseat_sound b marks = own_sound ok (seat b) w (read_seat b (g.leader w))
          (fresh_seat ok.global (ok.leaders w) has tk at_end b (λ k l h. marked_all (g.leader w) 64 marks k (ok.numbered k l (ok.in_hand w k l h)) l h))
          (own_seat ok.global (ok.leaders w) at_end has tk b) others (ok.in_hand w) (λ k l eq. carry_is_seat eq)

  pub prepare_sound : (w : ℕ) → 0 < (g.leader w).c → Sound P A (does (Prepare w) g) ps
  prepare_sound w has =
      let cl = (ok.leaders w).claim has in
      msgs_sound ok (g.msgs ++ (prepare (g.leader w).a w (g.leader w).e (g.leader w).c ∷ []))
      (each_append (MsgOk g.roster P A g.seated) g.msgs _ ok.messages (((ok.leaders w).seat_at cl.sits, cl.mine), tt))

  pub lose_sound : (m : ℕ) → Sound P A (does (Lose m) g) ps
  lose_sound m = msgs_sound ok _ (go (nth g.msgs (length g.msgs - 1)) refl)
    where
      Φ : Msg L → Type 0
      Φ = MsgOk g.roster P A g.seated

      go : (o : Option (Msg L)) → nth g.msgs (length g.msgs - 1) ≡ o → Each Φ (lose_at m g.msgs o)
      go None eq = ok.messages
      go (Some x) eq = each_take Φ (length g.msgs - 1) (set g.msgs m x) (each_set Φ g.msgs m x ok.messages (each_nth Φ g.msgs _ x ok.messages eq))

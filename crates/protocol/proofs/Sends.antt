-- A Propose and a delivery keep what holds.
use Rattle.std.proofs.Common.{◌≡◌, ℕ, zero, suc, ◌<◌, ◌≤◌, true, cond, List, ◌∷◌, Some, None, Option, sym, refl, subst, inl, inr, ⊎_elim, is_some}
use Rattle.protocol.specs.Words.{At, Proposed}
use Rattle.roster.specs.declared.entry.Entry.TheVariants.{Seat as seat}
use Rattle.protocol.proofs.Inv.{Facts, Add, SeatedOk, MsgOk, Upto, HasPromised, LeaderOk}
use Rattle.protocol.proofs.Msg.Msg.{prepare, proposal, report}
use Rattle.protocol.proofs.Put.{put}
use Rattle.protocol.proofs.Roles.{Seated, Leader, takes, sits, accepts}
use Rattle.protocol.proofs.Tools.{put_both, put_here, none_not_some, some_same, same?, add_case, upto_refl}
use Rattle.protocol.proofs.Model.{State, note, proposes, delivers, report_line, report_all}
use Rattle.protocol.specs.declared.step.Step.TheVariants.{Propose}
use Rattle.protocol.proofs.Model.Said.{Ok, Held}
use Rattle.protocol.proofs.Propose.{propose_global, propose_msg, propose_sends, propose_others, propose_own}
use Rattle.protocol.proofs.Accept.{accept_global, accept_msg, accept_leader, accept_others, accept_own}
use Rattle.protocol.proofs.Prepare.{up_global, up_leader, up_msg, sits_ok, promised, reported}
use Rattle.protocol.proofs.Sound.{Sound, Each, each_append, each_map}

module _ {L : Type 0} {P A : Facts L} {g : State L} {ps : List (ℕ × L)} (ok : Sound P A g ps) where
  module _ (w k : ℕ) (low : (0 < k) × (k ≤ 64)) (has : 0 < (g.leader w).c) (tk : (g.leader w).taken ≡ true) where
    pub propose_sound : (l : L) (o : Option L) → (g.leader w).hand k ≡ o → (P' : Facts L) × Sound P' A (proposes w k l o g) (note (Propose w k l) (cond (is_some o) Held Ok) ps)
    propose_sound l (Some m) eq =
        let can : (i : L) → (g.leader w).hand k ≡ Some i → i ≡ m = λ i h. some_same h eq in
        let P' : Facts L = Add P (g.leader w).e (g.leader w).c k m in (
          P',
          record {
            global = propose_global ok.global (ok.leaders w) has tk k m low can;
            leaders = λ u. ⊎_elim
                (λ here. subst (λ i. LeaderOk g.roster P' A g.seated i (g.leader i)) (sym here) (propose_own ok.global (ok.leaders w) has tk k m low can (g.leader w).hand (λ j i h. h) eq))
                (λ apart. propose_others ok.global (ok.leaders w) has tk k m low can (λ h. apart (sym h)) (ok.leaders u))
                (same? u w);
            seats = ok.seats;
            messages = each_append (MsgOk g.roster P' A g.seated) g.msgs _
                (each_map (MsgOk g.roster P A g.seated) (MsgOk g.roster P' A g.seated) g.msgs (propose_msg ok.global (ok.leaders w) has tk k m low can) ok.messages)
                (propose_sends ok.global (ok.leaders w) has tk k m low can, tt);
            learned = ok.learned;
            said = λ e c j i h. add_case {P = P} (λ e c j i. Proposed ps j i) (λ e c j i h. ok.said e c j i h) (ok.in_hand w k m eq) h;
            in_hand = ok.in_hand;
            in_roster = ok.in_roster;
            numbered = ok.numbered;
          },
        )
    propose_sound l None eq =
        let can : (i : L) → (g.leader w).hand k ≡ Some i → i ≡ l = λ i h. absurd (none_not_some eq h) in
        let P' : Facts L = Add P (g.leader w).e (g.leader w).c k l in
        let v' : Leader L = takes k l (g.leader w) in (
          P',
          record {
            global = propose_global ok.global (ok.leaders w) has tk k l low can;
            leaders = λ u. put_both (λ o. LeaderOk g.roster P' A g.seated u o) g.leader w v' u
                (λ here. subst (λ i. LeaderOk g.roster P' A g.seated i v') (sym here)
                (propose_own ok.global (ok.leaders w) has tk k l low can (put (g.leader w).hand k (Some l))
                (λ j i h. put_both (λ o. o ≡ Some i) (g.leader w).hand k (Some l) j (λ at. absurd (none_not_some eq (subst (λ q. (g.leader w).hand q ≡ Some i) at h))) (λ apart. h))
                (put_here (g.leader w).hand k (Some l))))
                (λ apart. propose_others ok.global (ok.leaders w) has tk k l low can (λ h. apart (sym h)) (ok.leaders u));
            seats = ok.seats;
            messages = each_append (MsgOk g.roster P' A g.seated) g.msgs _
                (each_map (MsgOk g.roster P A g.seated) (MsgOk g.roster P' A g.seated) g.msgs (propose_msg ok.global (ok.leaders w) has tk k l low can) ok.messages)
                (propose_sends ok.global (ok.leaders w) has tk k l low can, tt);
            learned = ok.learned;
            said = λ e c j i h. add_case {P = P} (λ e c j i. Proposed ((k, l) ∷ ps) j i) (λ e c j i h. inr (ok.said e c j i h)) (inl (refl, refl)) h;
            in_hand = λ u j i. put_both (λ o. o.hand j ≡ Some i → Proposed ((k, l) ∷ ps) j i) g.leader w v' u
                (λ here. put_both (λ o. o ≡ Some i → Proposed ((k, l) ∷ ps) j i) (g.leader w).hand k (Some l) j (λ at h. inl (at, some_same h refl)) (λ apart h. inr (ok.in_hand w j i h)))
                (λ apart h. inr (ok.in_hand u j i h));
            in_roster = λ q j i h. inr (ok.in_roster q j i h);
            numbered = λ j i h. ⊎_elim (λ z. subst (λ q. (0 < q) × (q ≤ 64)) (sym z.0) low) (ok.numbered j i) h;
          },
        )

  -- a Prepare or Proposal at its seat
  module _ (w e c : ℕ) (at : At g.roster e (seat w)) (timely : Upto (g.seated w).s (g.seated w).p e c) where
    grown : (b : Seated L) → b.s ≡ e → b.p ≡ c → (y : ℕ) → Upto (g.seated y).s (g.seated y).p (put g.seated w b y).s (put g.seated w b y).p
    grown b s p y = put_both (λ o. Upto (g.seated y).s (g.seated y).p o.s o.p) g.seated w b y
        (λ here. subst (λ i. Upto (g.seated i).s (g.seated i).p b.s b.p) (sym here) (subst (λ i. Upto (g.seated w).s (g.seated w).p i b.p) (sym s) (subst (λ i. Upto (g.seated w).s (g.seated w).p e i) (sym p) timely)))
        (λ apart. upto_refl (g.seated y).s (g.seated y).p)

    here_now : (b : Seated L) → b.s ≡ e → b.p ≡ c → HasPromised (put g.seated w b) w e c
    here_now b s p = subst (λ o. Upto e c o.s o.p) (sym (put_here g.seated w b)) (subst (λ i. Upto e c i b.p) (sym s) (subst (λ i. Upto e c e i) (sym p) (upto_refl e c)))

    each_reports : (P' A' : Facts L) (B' : ℕ → Seated L) (to : ℕ) (cells : ℕ → Option L) → ((k : ℕ) (l : L) → cells k ≡ Some l → MsgOk g.roster P' A' B' (report to e c k l)) → (n : ℕ) → Each (MsgOk g.roster P' A' B') (report_all to e c cells n)
    each_reports P' A' B' to cells h zero = tt
    each_reports P' A' B' to cells h (suc n) = each_append (MsgOk g.roster P' A' B') (report_all to e c cells n) _ (each_reports P' A' B' to cells h n) (one (cells (suc n)) refl)
      where
        one : (o : Option L) → cells (suc n) ≡ o → Each (MsgOk g.roster P' A' B') (report_line to e c (suc n) o)
        one None eq = tt
        one (Some l) eq = (h (suc n) l eq, tt)

    pub prepared_sound : (from : ℕ) → 0 < c → Sound P A (delivers w (Some (prepare w from e c)) g) ps
    prepared_sound from pos =
        let b : Seated L = sits e c (g.seated w) in
        let B' : ℕ → Seated L = put g.seated w b in
        let up = grown b refl refl in
        record {
          global = up_global B' up ok.global;
          leaders = λ u. up_leader B' up (ok.leaders u);
          seats = λ x. put_both (λ o. SeatedOk g.roster A x o) g.seated w b x (λ here. subst (λ i. SeatedOk g.roster A i b) (sym here) (sits_ok ok.global at timely (ok.seats w))) (λ apart. ok.seats x);
          messages = each_append (MsgOk g.roster P A B') g.msgs _
              (each_map (MsgOk g.roster P A g.seated) (MsgOk g.roster P A B') g.msgs (up_msg g.roster P A g.seated B' up) ok.messages) (
                (w, at, here_now b refl refl, (λ none. promised ok.global at timely (ok.seats w)), pos),
                each_reports P A B' from b.cells (λ k l h. let z = reported ok.global at timely (ok.seats w) k l h in (z.0, z.1, z.2, pos)) 64,
              );
          learned = ok.learned;
          said = ok.said;
          in_hand = ok.in_hand;
          in_roster = ok.in_roster;
          numbered = ok.numbered;
        }

    pub accepted_sound : (k : ℕ) (l : L) → P e c k l → Sound P (Add A e c k l) (delivers w (Some (proposal w e c k l)) g) ps
    accepted_sound k l sent =
        let b : Seated L = accepts k l (sits e c (g.seated w)) in
        let B' : ℕ → Seated L = put g.seated w b in
        let up = grown b refl refl in
        let now = here_now b refl refl in
        let A' : Facts L = Add A e c k l in
        record {
          global = accept_global ok.global sent at timely B' up now;
          leaders = λ u. accept_leader ok.global sent at timely B' up now (ok.leaders u);
          seats = λ x. put_both (λ o. SeatedOk g.roster A' x o) g.seated w b x
              (λ here. subst (λ i. SeatedOk g.roster A' i b) (sym here) (accept_own ok.global sent at timely B' up now (sits e c (g.seated w)) refl (sits_ok ok.global at timely (ok.seats w))))
              (λ apart. accept_others ok.global sent at timely B' up now x (g.seated x) (λ h. apart (sym h)) (ok.seats x));
          messages = each_append (MsgOk g.roster P A' B') g.msgs _
              (each_map (MsgOk g.roster P A g.seated) (MsgOk g.roster P A' B') g.msgs (accept_msg ok.global sent at timely B' up now) ok.messages)
              ((e, c, inr (refl, refl, refl, refl)), tt);
          learned = λ u j m h. let z = ok.learned u j m h in (z.0, z.1, inl z.2);
          said = ok.said;
          in_hand = ok.in_hand;
          in_roster = ok.in_roster;
          numbered = ok.numbered;
        }

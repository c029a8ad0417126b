-- What holds in every run.
use Rattle.std.proofs.Common.{◌≡◌, ℕ, zero, suc, ◌<◌, ◌≤◌, true, cond, List, [], ◌∷◌, ◌++◌, length, take, set, Some, None, sym, refl, ◌∙◌, subst, ⊎_elim}
use Rattle.std.proofs.lemmas.Bool.{cases_Bool}
use Rattle.roster.specs.declared.entry.Entry.{Entry}
use Rattle.protocol.specs.Words.{At, Proposed, under}
use Rattle.roster.specs.declared.entry.Entry.TheVariants.{Lead as lead, Seat as seat, Carry as carry}
use Rattle.protocol.proofs.Places.{at_old}
use Rattle.protocol.proofs.Inv.{Facts, SeatedOk, MsgOk, Global, LeaderOk}
use Rattle.protocol.proofs.Msg.{Msg}
use Rattle.protocol.proofs.Roles.{Leader}
use Rattle.protocol.proofs.Tools.{put_both, none_not_some, some_same}
use Rattle.protocol.proofs.Model.{State, Asks, refusal, nth, with_leader, with_msgs, append}
use Rattle.protocol.proofs.Grow.{Fresh, grow_global, grow_leader, grow_seated, grow_msg}

abbrev pub Each : {X : Type 0} → (X → Type 0) → List X → Type 0
Each Φ [] = Unit {0}
Each Φ (x ∷ xs) = Φ x × Each Φ xs

module _ {X : Type 0} where
  pub each_append : (Φ : X → Type 0) (xs ys : List X) → Each Φ xs → Each Φ ys → Each Φ (xs ++ ys)
  each_append Φ [] ys h k = k
  each_append Φ (x ∷ xs) ys h k = (h.0, each_append Φ xs ys h.1 k)

  pub each_map : (Φ Ψ : X → Type 0) (xs : List X) → ((x : X) → Φ x → Ψ x) → Each Φ xs → Each Ψ xs
  each_map Φ Ψ [] f h = h
  each_map Φ Ψ (x ∷ xs) f h = (f x h.0, each_map Φ Ψ xs f h.1)

  pub each_nth : (Φ : X → Type 0) (xs : List X) (i : ℕ) (x : X) → Each Φ xs → nth xs i ≡ Some x → Φ x
  each_nth Φ [] i x h eq = absurd (none_not_some refl eq)
  each_nth Φ (y ∷ ys) zero x h eq = subst Φ (some_same refl eq) h.0
  each_nth Φ (y ∷ ys) (suc i) x h eq = each_nth Φ ys i x h.1 eq

  pub each_set : (Φ : X → Type 0) (xs : List X) (i : ℕ) (x : X) → Each Φ xs → Φ x → Each Φ (set xs i x)
  each_set Φ [] i x h k = h
  each_set Φ (y ∷ ys) zero x h k = (k, h.1)
  each_set Φ (y ∷ ys) (suc i) x h k = (h.0, each_set Φ ys i x h.1 k)

  pub each_take : (Φ : X → Type 0) (n : ℕ) (xs : List X) → Each Φ xs → Each Φ (take n xs)
  each_take Φ zero xs h = tt
  each_take Φ (suc n) [] h = tt
  each_take Φ (suc n) (y ∷ ys) h = (h.0, each_take Φ n ys h.1)

abbrev pub Passed : Asks → Type 0
Passed [] = Unit {0}
Passed (q ∷ qs) = (q.0 ≡ true) × Passed qs

pub passed : (qs : Asks) → refusal qs ≡ None → Passed qs
passed [] h = tt
passed (q ∷ qs) h = ⊎_elim
    (λ t. (t, passed qs (let e : cond q.0 (refusal qs) (Some q.1) ≡ refusal qs = rw t in sym e ∙ h)))
    (λ f. absurd (none_not_some h (let e : cond q.0 (refusal qs) (Some q.1) ≡ Some q.1 = rw f in e)))
    (cases_Bool q.0)

pub record Sound {L : Type 0} (P A : Facts L) (g : State L) (ps : List (ℕ × L)) : Type 0 where
  pub global : Global g.roster P A g.seated
  pub leaders : (w : ℕ) → LeaderOk g.roster P A g.seated w (g.leader w)
  pub seats : (x : ℕ) → SeatedOk g.roster A x (g.seated x)
  pub messages : Each (MsgOk g.roster P A g.seated) g.msgs
  pub learned : (w k : ℕ) (l : L) → g.held w k ≡ Some l → (e : ℕ) × (c : ℕ) × A e c k l
  pub said : (e c k : ℕ) (l : L) → P e c k l → Proposed ps k l
  pub in_hand : (w k : ℕ) (l : L) → (g.leader w).hand k ≡ Some l → Proposed ps k l
  pub in_roster : (q k : ℕ) (l : L) → At g.roster q (carry k l) → Proposed ps k l
  pub numbered : (k : ℕ) (l : L) → Proposed ps k l → (0 < k) × (k ≤ 64)

-- what the way to a line needs besides
pub record Extra {L : Type 0} (A : Facts L) (g : State L) (hs : List (ℕ × ℕ)) : Type 0 where
  pub first : 0 < length g.roster → (x : ℕ) × At g.roster 1 (seat x)
  pub staff : (q x : ℕ) → At g.roster q (seat x) → x < g.n
  pub promised : (x : ℕ) → (g.seated x).p ≤ length g.roster
  pub noted : (e c k : ℕ) (l : L) → A e c k l → under e k hs ≡ true
  pub listed : (e k : ℕ) → under e k hs ≡ true → (c : ℕ) × (l : L) × A e c k l

-- some history goes with the group
abbrev pub Lives : {L : Type 0} → State L → List (ℕ × L) → List (ℕ × ℕ) → Type 1
Lives {L} g ps hs = (P : Facts L) × (A : Facts L) × Sound P A g ps × Extra A g hs

module _ {L : Type 0} {P A : Facts L} {g : State L} {ps : List (ℕ × L)} (ok : Sound P A g ps) where
  -- one worker changes
  pub leader_sound : (w : ℕ) (v : Leader L) → LeaderOk g.roster P A g.seated w v → ((k : ℕ) (l : L) → v.hand k ≡ Some l → Proposed ps k l) → Sound P A (with_leader w v g) ps
  leader_sound w v new hand = record {
    global = ok.global;
    leaders = λ u. put_both (λ o. LeaderOk g.roster P A g.seated u o) g.leader w v u (λ here. subst (λ i. LeaderOk g.roster P A g.seated i v) (sym here) new) (λ apart. ok.leaders u);
    seats = ok.seats;
    messages = ok.messages;
    learned = ok.learned;
    said = ok.said;
    in_hand = λ u k l. put_both (λ o. o.hand k ≡ Some l → Proposed ps k l) g.leader w v u (λ here. hand k l) (λ apart. ok.in_hand u k l);
    in_roster = ok.in_roster;
    numbered = ok.numbered;
  }

  -- the roster gains an entry
  pub append_sound : (n : Entry L) → Fresh g.roster P A g.seated n → ((u : ℕ) → 0 < (g.leader u).c → (g.leader u).r ≡ length g.roster → (i : ℕ) × (n ≡ lead i))
      → ((k : ℕ) (l : L) → carry k l ≡ n → Proposed ps k l) → Sound P A (append n g) ps
  append_sound n fresh end line = record {
    global = grow_global n ok.global fresh;
    leaders = λ u. grow_leader n (end u) (ok.leaders u);
    seats = λ x. grow_seated g.roster n (ok.seats x);
    messages = each_map (MsgOk g.roster P A g.seated) (MsgOk (g.roster ++ (n ∷ [])) P A g.seated) g.msgs (grow_msg g.roster n P A g.seated) ok.messages;
    learned = ok.learned;
    said = ok.said;
    in_hand = ok.in_hand;
    in_roster = λ q k l h. ⊎_elim (ok.in_roster q k l) (λ z. line k l z.1) (at_old g.roster n h);
    numbered = ok.numbered;
  }

  -- the roster gains an entry by the worker w
  pub own_sound : (n : Entry L) (w : ℕ) (v : Leader L) → Fresh g.roster P A g.seated n → LeaderOk (g.roster ++ (n ∷ [])) P A g.seated w v
      → ((u : ℕ) → (u ≡ w → ⊥) → 0 < (g.leader u).c → (g.leader u).r ≡ length g.roster → (i : ℕ) × (n ≡ lead i))
      → ((k : ℕ) (l : L) → v.hand k ≡ Some l → Proposed ps k l) → ((k : ℕ) (l : L) → carry k l ≡ n → Proposed ps k l) → Sound P A (with_leader w v (append n g)) ps
  own_sound n w v fresh new end hand line = record {
    global = grow_global n ok.global fresh;
    leaders = λ u. put_both (λ o. LeaderOk (g.roster ++ (n ∷ [])) P A g.seated u o) g.leader w v u (λ here. subst (λ i. LeaderOk (g.roster ++ (n ∷ [])) P A g.seated i v) (sym here) new) (λ apart. grow_leader n (end u apart) (ok.leaders u));
    seats = λ x. grow_seated g.roster n (ok.seats x);
    messages = each_map (MsgOk g.roster P A g.seated) (MsgOk (g.roster ++ (n ∷ [])) P A g.seated) g.msgs (grow_msg g.roster n P A g.seated) ok.messages;
    learned = ok.learned;
    said = ok.said;
    in_hand = λ u k l. put_both (λ o. o.hand k ≡ Some l → Proposed ps k l) g.leader w v u (λ here. hand k l) (λ apart. ok.in_hand u k l);
    in_roster = λ q k l h. ⊎_elim (ok.in_roster q k l) (λ z. line k l z.1) (at_old g.roster n h);
    numbered = ok.numbered;
  }

  -- messages are sent, or lost
  pub msgs_sound : (ms : List (Msg L)) → Each (MsgOk g.roster P A g.seated) ms → Sound P A (with_msgs ms g) ps
  msgs_sound ms h = record { global = ok.global; leaders = ok.leaders; seats = ok.seats; messages = h; learned = ok.learned; said = ok.said; in_hand = ok.in_hand; in_roster = ok.in_roster; numbered = ok.numbered }

-- From every run there is a way to every line.
use Rattle.std.proofs.Common.{◌≡◌, ℕ, zero, suc, ◌+◌, ◌-◌, ◌<◌, ◌≤◌, true, false, ◌⊎◌, List, [], ◌∷◌, length, Some, None, Option, refl, ap, ◌∙◌, subst, inl, inr, ⊎_elim, arith, is_some}
use Rattle.std.proofs.lemmas.Bool.{both_ways, lt-ltb}
use Rattle.roster.specs.declared.entry.Entry.{Entry}
use Rattle.protocol.specs.Words.{At, Newest, accepted-under, under}
use Rattle.roster.specs.declared.entry.Entry.TheVariants.{Lead as lead, Seat as seat, Carry as carry}
use Rattle.protocol.proofs.Places.{at_low, at_high, same_seat}
use Rattle.protocol.proofs.Inv.{Facts, NoSeat, Upto}
use Rattle.protocol.proofs.Roles.{Leader, sits}
use Rattle.protocol.proofs.Tools.{seat?, put_here, side, some_is, not_none}
use Rattle.protocol.specs.declared.step.Step.{Step}
use Rattle.protocol.proofs.Model.{State, nth, does, reads, filled, Way, Progress, SomeSeat}
use Rattle.protocol.specs.declared.step.Step.TheVariants.{Read, Propose}
use Rattle.protocol.proofs.Prepare.{sits_ok}
use Rattle.protocol.proofs.TakeUp.{tally_part}
use Rattle.protocol.proofs.Sound.{Sound, Extra}
use Rattle.protocol.proofs.Steps.{read_sound}
use Rattle.protocol.proofs.Way.{Reach, reach_step, reach_as, lead_way, nth_some}
use Rattle.protocol.proofs.Safe.{run_lives}

module _ {L : Type 0} where
  abbrev with_leaders : (ℕ → Leader L) → State L → State L
  with_leaders f g = record { n = g.n; room = g.room; leader = f; seated = g.seated; held = g.held; msgs = g.msgs; roster = g.roster; cap = g.cap; opened = g.opened }

  reads_more : (o : Option (Entry L)) (v : Leader L) → is_some o ≡ true → (reads o v).r ≡ suc v.r
  reads_more None v h = absurd (both_ways false refl h)
  reads_more (Some (lead u)) v h = refl
  reads_more (Some (seat u)) v h = refl
  reads_more (Some (carry k l)) v h = refl

  reads_way : {P A : Facts L} {ps : List (ℕ × L)} {Φ : State L → Type 0} {i : ℕ} {qs : List (Step L)} (w u : ℕ) (g : State L) → Sound P A g ps → w < g.n → g.opened ≡ true → u + (g.leader w).r ≡ length g.roster
      → ((f : ℕ → Leader L) → Sound P A (with_leaders f g) ps → (f w).r ≡ length g.roster → Reach (with_leaders f g) i qs Φ) → Reach g (u + i) qs Φ
  reads_way w zero g ok wn opn eq k = reach_as (omega arith) (k g.leader ok (omega arith))
  reads_way w (suc u) g ok wn opn eq k =
      let r-is : ((does (Read w) g).leader w).r ≡ suc (g.leader w).r =
      ap (λ o. o.r) (put_here g.leader w (reads (nth g.roster (g.leader w).r) (g.leader w))) ∙ reads_more (nth g.roster (g.leader w).r) (g.leader w) (nth_some g.roster (g.leader w).r (omega arith)) in
      reach_as (omega arith) (reach_step (Read w) (lt-ltb w g.n wn, (opn, (lt-ltb (g.leader w).r (length g.roster) (omega arith), tt)))
      (reads_way w u (does (Read w) g) (read_sound ok w) wn opn (omega arith) k))

  -- the newest Seat entry below place b
  last_seat : (R : List (Entry L)) (b : ℕ) → ((q : ℕ) × (u : ℕ) × At R q (seat u) × NoSeat R q b) ⊎ ((q u : ℕ) → q < b → At R q (seat u) → ⊥)
  last_seat R zero = inr (λ q u h k. omega arith)
  last_seat R (suc b) = go (last_seat R b) (seat? R b)
    where
      go : ((q : ℕ) × (u : ℕ) × At R q (seat u) × NoSeat R q b) ⊎ ((q u : ℕ) → q < b → At R q (seat u) → ⊥) → ((u : ℕ) × At R b (seat u)) ⊎ ((u : ℕ) → At R b (seat u) → ⊥)
          → ((q : ℕ) × (u : ℕ) × At R q (seat u) × NoSeat R q (suc b)) ⊎ ((q u : ℕ) → q < suc b → At R q (seat u) → ⊥)
      go old (inl h) = inl (b, h.0, h.1, λ q u i j at. omega arith)
      go (inl old) (inr h) = inl (old.0, old.1, old.2, λ q u i j at. ⊎_elim (λ lt. old.3 q u i lt at) (λ ge. h u (subst (λ p. At R p (seat u)) (let e : q ≡ b = omega arith in e) at)) (side q b))
      go (inr old) (inr h) = inr (λ q u j at. ⊎_elim (λ lt. old q u lt at) (λ ge. h u (subst (λ p. At R p (seat u)) (let e : q ≡ b = omega arith in e) at)) (side q b))

  module _ {P A : Facts L} {g : State L} {ps : List (ℕ × L)} {hs : List (ℕ × ℕ)} (ok : Sound P A g ps) (ex : Extra A g hs) where
    pub newest : 0 < length g.roster → (e : ℕ) × (x : ℕ) × Newest g.roster e x
    newest h = ⊎_elim
        (λ z. (z.0, z.1, (z.2, λ q u i at. z.3 q u i (let y = at_high at in omega arith) at)))
        (λ z. let y = ex.first h in absurd (z 1 y.0 (omega arith) y.1))
        (last_seat g.roster (suc (length g.roster)))

    module _ (e x : ℕ) (new : Newest g.roster e x) where
      c : ℕ
      c = suc (length g.roster)

      last : {q u : ℕ} → At g.roster q (seat u) → q ≤ e
      last {q} {u} h = ⊎_elim (λ lt. absurd (new.1 q u lt h)) (λ z. z) (side e q)

      timely : Upto (g.seated x).s (g.seated x).p e (suc (length g.roster))
      timely = record {
        low = ⊎_elim (λ pos. last ((ok.seats x).sits pos)) (λ z. omega arith) (side 0 (g.seated x).s);
        tie = λ h. let z = ex.promised x in omega arith;
      }

      seen : filled (sits e (suc (length g.roster)) (g.seated x)).cells 64 ≡ accepted-under e hs
      seen =
          let s = sits_ok ok.global new.0 timely (ok.seats x) in
          let C : ℕ → Option L = (sits e (suc (length g.roster)) (g.seated x)).cells in
          let up = tally_part (λ j. under e j hs) (λ j. is_some (C j)) 64 (λ i lo hi h. let z = some_is (C i) h in let y = s.has z.1 in ex.noted e y.0 i z.0 y.1) in
          let down = tally_part (λ j. is_some (C j)) (λ j. under e j hs) 64 (λ i lo hi h. let z = ex.listed e i h in not_none (C i) (s.keeps z.2)) in
          omega arith

      pub way : (w k : ℕ) (l : L) → g.opened ≡ true → 0 < length g.roster → length g.roster < g.cap → w < g.n → (w ≡ x → ⊥) → 0 < k → k ≤ 64 →
          length g.msgs + accepted-under e hs + 4 ≤ g.room → Way g w k l ((length g.roster - (g.leader w).r) + accepted-under e hs + 7)
      way w k l opn some free wn apart lo hi room =
          let fits = (ok.leaders w).fits in
          let r = reads_way w (length g.roster - (g.leader w).r) g ok wn opn (omega arith) there in
          record { steps = r.steps; long = r.long ∙ (let z = seen in omega arith); clear = r.clear; one = r.one; holds = r.end }
        where
          there : (f : ℕ → Leader L) → Sound P A (with_leaders f g) ps → (f w).r ≡ length g.roster
              → Reach (with_leaders f g) (filled (sits e (suc (length g.roster)) (g.seated x)).cells 64 + 7) (Propose w k l ∷ []) (λ h. (m : L) × (h.held w k ≡ Some m))
          there f ok' all =
              let lw = ok'.leaders w in
              let y = ex.first some in
              let pos : 0 < (f w).e = ⊎_elim (λ z. z) (λ z. absurd (lw.newest 1 y.0 (omega arith) (omega arith) y.1)) (side 0 (f w).e) in
              let at = lw.seat_at pos in
              let le = last at in
              let ge : e ≤ (f w).e = ⊎_elim (λ lt. absurd (lw.newest e x lt (let z = at_high new.0 in omega arith) new.0)) (λ z. z) (side (f w).e e) in
              let e_is : (f w).e ≡ e = omega arith in
              let a_is : (f w).a ≡ x = same_seat (subst (λ i. At g.roster i (seat (f w).a)) e_is at) new.0 in
              lead_way w x e (suc (length g.roster)) k l (lo, hi) (omega arith) (with_leaders f g) wn (ex.staff e x new.0) opn free all a_is e_is (at_low new.0) refl apart timely (let z = seen in omega arith)

pub some_seat : (L : Type 0) → SomeSeat L
some_seat L g ps hs r some = let z = run_lives r in newest z.2 z.3 some

pub progress : (L : Type 0) → Progress L
progress L g ps hs r opn some free e x new w k l wn apart lo hi room = let z = run_lives r in way z.2 z.3 e x new w k l opn some free wn apart lo hi room

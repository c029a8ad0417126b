-- Case splits over facts and places.
use Rattle.std.proofs.Common.{◌≡◌, ℕ, zero, suc, ◌<◌, ◌≤◌, eqb, ◌⊎◌, List, [], ◌∷◌, Some, None, Option, sym, refl, subst, inl, inr, ⊎_elim, arith, true, is_some}
use native.Mathlib.Decide.{dec_lt, ℕ_discrete}
use Rattle.std.proofs.lemmas.Bool.{cond_both, eqb-true, eqb-false, eq-eqb, ne_eqb, cond-true, cond-false}
use Rattle.protocol.proofs.Put.{put}
use Rattle.roster.specs.declared.entry.Entry.{Entry}
use Rattle.protocol.specs.Words.{Stands, At}
use Rattle.roster.specs.declared.entry.Entry.TheVariants.{Lead as lead, Seat as seat, Carry as carry}
use Rattle.protocol.proofs.Places.{at_same}
use Rattle.protocol.proofs.Inv.{Facts, Add, NoLead, NoSeat, Upto, Under}

module _ {L : Type 0} where
  pub add_case : {P : Facts L} {e c k : ℕ} {l : L} (Φ : Facts L) → ((f d j : ℕ) (m : L) → P f d j m → Φ f d j m) → Φ e c k l → {f d j : ℕ} {m : L} → Add P e c k l f d j m → Φ f d j m
  add_case Φ old new {f} {d} {j} {m} (inl h) = old f d j m h
  add_case {P} {e} {c} {k} {l} Φ old new {f} {d} {j} {m} (inr h) =
      subst (λ z. Φ z d j m) (sym h.0) (subst (λ z. Φ e z j m) (sym h.1) (subst (λ z. Φ e c z m) (sym h.2) (subst (λ z. Φ e c k z) (sym h.3) new)))

  -- what stands at a place, if anything does
  look : (R : List (Entry L)) (p : ℕ) → ((y : Entry L) × Stands R p y) ⊎ ((y : Entry L) → Stands R p y → ⊥)
  look [] p = inr (λ y h. h)
  look (x ∷ xs) zero = inr (λ y h. h)
  look (x ∷ xs) (suc zero) = inl (x, refl)
  look (x ∷ xs) (suc (suc p)) = look xs (suc p)

  pub lead? : (R : List (Entry L)) (p : ℕ) → ((u : ℕ) × At R p (lead u)) ⊎ ((u : ℕ) → At R p (lead u) → ⊥)
  lead? R p = go (look R p)
    where
      by : (y : Entry L) → Stands R p y → ((u : ℕ) × At R p (lead u)) ⊎ ((u : ℕ) → At R p (lead u) → ⊥)
      by (lead u) h = inl (u, record { here = h })
      by (seat x) h = inr (λ u k. let q : lead u ≡ seat x = at_same k (record { here = h }) in let z : ◌≡◌ {A = ℕ} 0 1 = cc in omega arith)
      by (carry x l) h = inr (λ u k. let q : lead u ≡ carry x l = at_same k (record { here = h }) in let z : ◌≡◌ {A = ℕ} 0 1 = cc in omega arith)

      go : ((y : Entry L) × Stands R p y) ⊎ ((y : Entry L) → Stands R p y → ⊥) → ((u : ℕ) × At R p (lead u)) ⊎ ((u : ℕ) → At R p (lead u) → ⊥)
      go (inl h) = by h.0 h.1
      go (inr h) = inr (λ u k. h (lead u) k.here)

  pub seat? : (R : List (Entry L)) (p : ℕ) → ((u : ℕ) × At R p (seat u)) ⊎ ((u : ℕ) → At R p (seat u) → ⊥)
  seat? R p = go (look R p)
    where
      by : (y : Entry L) → Stands R p y → ((u : ℕ) × At R p (seat u)) ⊎ ((u : ℕ) → At R p (seat u) → ⊥)
      by (seat u) h = inl (u, record { here = h })
      by (lead x) h = inr (λ u k. let q : seat u ≡ lead x = at_same k (record { here = h }) in let z : ◌≡◌ {A = ℕ} 0 1 = cc in omega arith)
      by (carry x l) h = inr (λ u k. let q : seat u ≡ carry x l = at_same k (record { here = h }) in let z : ◌≡◌ {A = ℕ} 0 1 = cc in omega arith)

      go : ((y : Entry L) × Stands R p y) ⊎ ((y : Entry L) → Stands R p y → ⊥) → ((u : ℕ) × At R p (seat u)) ⊎ ((u : ℕ) → At R p (seat u) → ⊥)
      go (inl h) = by h.0 h.1
      go (inr h) = inr (λ u k. h (seat u) k.here)

pub some_is : {X : Type 0} (o : Option X) → is_some o ≡ true → (x : X) × (o ≡ Some x)
some_is None h = absurd (let z : ◌≡◌ {A = ℕ} 0 1 = cc in omega arith)
some_is (Some x) h = (x, refl)

pub not_none : {X : Type 0} (o : Option X) → (o ≡ None → ⊥) → is_some o ≡ true
not_none None h = absurd (h refl)
not_none (Some x) h = refl

pub side : (a b : ℕ) → (a < b) ⊎ (b ≤ a)
side a b = elim (dec_lt a b) [ yes h ↦ inl h | no h ↦ inr (omega arith) ]

pub three : (a b : ℕ) → (a < b) ⊎ ((a ≡ b) ⊎ (b < a))
three a b = elim (dec_lt a b) [ yes h ↦ inl h | no h ↦ elim (dec_lt b a) [ yes k ↦ inr (inr k) | no k ↦ inr (inl (omega arith)) ] ]

pub same? : (a b : ℕ) → (a ≡ b) ⊎ (a ≡ b → ⊥)
same? a b = elim (ℕ_discrete a b) [ yes h ↦ inl h | no h ↦ inr h ]

pub not_under : {e c f d : ℕ} → Upto f d e c → Under e c f d → ⊥
not_under t h = let a = h.tie t.low in let b = t.tie h.low in omega arith

pub upto_refl : (e c : ℕ) → Upto e c e c
upto_refl e c = record { low = omega arith; tie = omega arith }

pub upto_trans : {e c f d i j : ℕ} → Upto e c f d → Upto f d i j → Upto e c i j
upto_trans {e} {c} {f} {d} {i} {j} h k = let a = h.low in let b = k.low in record { low = omega arith; tie = λ z. let p = h.tie (omega arith) in let q = k.tie (omega arith) in omega arith }

pub under_trans : {e c f d i j : ℕ} → Under e c f d → Upto f d i j → Under e c i j
under_trans {e} {c} {f} {d} {i} {j} h k = let a = h.low in let b = k.low in record { low = omega arith; tie = λ z. let p = h.tie (omega arith) in let q = k.tie (omega arith) in omega arith }

pub order : (e c f d : ℕ) → Upto e c f d ⊎ Under f d e c
order e c f d = ⊎_elim (λ lt. inl (record { low = omega arith; tie = omega arith }))
    (⊎_elim (λ eq. ⊎_elim (λ lt. inr (record { low = omega arith; tie = λ z. lt })) (λ ge. inl (record { low = omega arith; tie = λ z. ge })) (side d c))
    (λ gt. inr (record { low = omega arith; tie = omega arith }))) (three e f)

pub upto_tied : {e c d : ℕ} → Upto e c e d → c ≤ d
upto_tied h = h.tie (omega arith)

pub at_tie : (e : ℕ) {c d : ℕ} → c ≤ d → Upto e c e d
at_tie e h = record { low = omega arith; tie = λ z. h }

pub under_tie : (e : ℕ) {c d : ℕ} → c < d → Under e c e d
under_tie e h = record { low = omega arith; tie = λ z. h }

pub weaker : {e c f d : ℕ} → Under e c f d → Upto e c f d
weaker {e} {c} {f} {d} h = record { low = h.low; tie = λ z. let k = h.tie z in omega arith }

pub put_both : {X : Type 0} (Φ : X → Type 0) (f : ℕ → X) (k : ℕ) (v : X) (j : ℕ) → (j ≡ k → Φ v) → ((j ≡ k → ⊥) → Φ (f j)) → Φ (put f k v j)
put_both Φ f k v j here apart = cond_both (eqb j k) v (f j) Φ (λ h. here (eqb-true j k h)) (λ h. apart (eqb-false j k h))

pub put_here : {X : Type 0} (f : ℕ → X) (k : ℕ) (v : X) → put f k v k ≡ v
put_here f k v = cond-true (eqb k k) v (f k) (eq-eqb k k refl)

pub put_apart : {X : Type 0} (f : ℕ → X) (k : ℕ) (v : X) (j : ℕ) → (j ≡ k → ⊥) → put f k v j ≡ f j
put_apart f k v j h = cond-false (eqb j k) v (f j) (ne_eqb j k h)

pub none_not_some : {X : Type 0} {o : Option X} {x : X} → o ≡ None → o ≡ Some x → ⊥
none_not_some h k = let z : ◌≡◌ {A = ℕ} 0 1 = cc in omega arith

pub some_same : {X : Type 0} {o : Option X} {x y : X} → o ≡ Some x → o ≡ Some y → x ≡ y
some_same h k = cc

-- a place between a and b with the wanted kind, or none
module _ {F : ℕ → ℕ → Type 0} (F? : (p : ℕ) → ((u : ℕ) × F p u) ⊎ ((u : ℕ) → F p u → ⊥)) where
  pub between : (a b : ℕ) → ((q : ℕ) × (u : ℕ) × (a < q) × (q < b) × F q u) ⊎ ((q u : ℕ) → a < q → q < b → F q u → ⊥)
  between a zero = inr (λ q u h k f. omega arith)
  between a (suc b) = go (between a b) (F? b) (side a b)
    where
      go : ((q : ℕ) × (u : ℕ) × (a < q) × (q < b) × F q u) ⊎ ((q u : ℕ) → a < q → q < b → F q u → ⊥) → ((u : ℕ) × F b u) ⊎ ((u : ℕ) → F b u → ⊥) → (a < b) ⊎ (b ≤ a)
          → ((q : ℕ) × (u : ℕ) × (a < q) × (q < suc b) × F q u) ⊎ ((q u : ℕ) → a < q → q < suc b → F q u → ⊥)
      go (inl x) y z = inl (x.0, x.1, x.2, omega arith, x.4)
      go (inr x) (inl y) (inl z) = inl (b, y.0, z, omega arith, y.1)
      go (inr x) (inl y) (inr z) = inr (λ q u h k f. omega arith)
      go (inr x) (inr y) z = inr (λ q u h k f. ⊎_elim (λ lt. x q u h lt f) (λ ge. y u (subst (λ j. F j u) (let e : q ≡ b = omega arith in e) f)) (side q b))

module _ {L : Type 0} where
  pub lead_between : (R : List (Entry L)) (a b : ℕ) → ((q : ℕ) × (u : ℕ) × (a < q) × (q < b) × At R q (lead u)) ⊎ NoLead R a b
  lead_between R a b = between (lead? R) a b

  pub seat_between : (R : List (Entry L)) (a b : ℕ) → ((q : ℕ) × (u : ℕ) × (a < q) × (q < b) × At R q (seat u)) ⊎ NoSeat R a b
  seat_between R a b = between (seat? R) a b

-- What is at a place, and what an appended entry changes.
use Rattle.std.proofs.Common.{◌≡◌, ℕ, zero, suc, ◌<◌, ◌≤◌, ◌⊎◌, List, [], ◌∷◌, ◌++◌, length, sym, refl, ap, ◌∙◌, inl, inr, ⊎_elim, arith}
use Rattle.roster.specs.declared.entry.Entry.{Entry}
use Rattle.protocol.specs.Words.{Stands, At}
use Rattle.roster.specs.declared.entry.Entry.TheVariants.{Lead as lead, Seat as seat, Carry as carry}

module _ {L : Type 0} where
  found_low : (R : List (Entry L)) (p : ℕ) (x : Entry L) → Stands R p x → 0 < p
  found_low [] p x h = absurd h
  found_low (y ∷ ys) zero x h = absurd h
  found_low (y ∷ ys) (suc p) x h = omega arith

  found_high : (R : List (Entry L)) (p : ℕ) (x : Entry L) → Stands R p x → p ≤ length R
  found_high [] p x h = absurd h
  found_high (y ∷ ys) zero x h = absurd h
  found_high (y ∷ ys) (suc zero) x h = omega arith
  found_high (y ∷ ys) (suc (suc p)) x h = let k = found_high ys (suc p) x h in omega arith

  found_same : (R : List (Entry L)) (p : ℕ) (x z : Entry L) → Stands R p x → Stands R p z → x ≡ z
  found_same [] p x z h k = absurd h
  found_same (y ∷ ys) zero x z h k = absurd h
  found_same (y ∷ ys) (suc zero) x z h k = h ∙ sym k
  found_same (y ∷ ys) (suc (suc p)) x z h k = found_same ys (suc p) x z h k

  found_grow : (R : List (Entry L)) (n : Entry L) (p : ℕ) (x : Entry L) → Stands R p x → Stands (R ++ (n ∷ [])) p x
  found_grow [] n p x h = absurd h
  found_grow (y ∷ ys) n zero x h = absurd h
  found_grow (y ∷ ys) n (suc zero) x h = h
  found_grow (y ∷ ys) n (suc (suc p)) x h = found_grow ys n (suc p) x h

  found_last : (R : List (Entry L)) (n : Entry L) → Stands (R ++ (n ∷ [])) (suc (length R)) n
  found_last [] n = refl
  found_last (y ∷ ys) n = found_last ys n

  found_old : (R : List (Entry L)) (n : Entry L) (p : ℕ) (x : Entry L) → Stands (R ++ (n ∷ [])) p x → Stands R p x ⊎ ((p ≡ suc (length R)) × (x ≡ n))
  found_old [] n zero x h = absurd h
  found_old [] n (suc zero) x h = inr (refl, h)
  found_old [] n (suc (suc p)) x h = absurd h
  found_old (y ∷ ys) n zero x h = absurd h
  found_old (y ∷ ys) n (suc zero) x h = inl h
  found_old (y ∷ ys) n (suc (suc p)) x h = ⊎_elim inl (λ e. inr (ap suc e.0, e.1)) (found_old ys n (suc p) x h)

  pub length_more : (R : List (Entry L)) (n : Entry L) → length (R ++ (n ∷ [])) ≡ suc (length R)
  length_more [] n = refl
  length_more (y ∷ ys) n = ap suc (length_more ys n)

  pub at_low : {R : List (Entry L)} {p : ℕ} {x : Entry L} → At R p x → 0 < p
  at_low {R} {p} {x} h = found_low R p x h.here

  pub at_high : {R : List (Entry L)} {p : ℕ} {x : Entry L} → At R p x → p ≤ length R
  at_high {R} {p} {x} h = found_high R p x h.here

  pub at_same : {R : List (Entry L)} {p : ℕ} {x z : Entry L} → At R p x → At R p z → x ≡ z
  at_same {R} {p} {x} {z} h k = found_same R p x z h.here k.here

  pub at_grow : {R : List (Entry L)} {p : ℕ} {x : Entry L} (n : Entry L) → At R p x → At (R ++ (n ∷ [])) p x
  at_grow {R} {p} {x} n h = record { here = found_grow R n p x h.here }

  pub at_last : (R : List (Entry L)) (n : Entry L) → At (R ++ (n ∷ [])) (suc (length R)) n
  at_last R n = record { here = found_last R n }

  pub at_old : (R : List (Entry L)) (n : Entry L) {p : ℕ} {x : Entry L} → At (R ++ (n ∷ [])) p x → At R p x ⊎ ((p ≡ suc (length R)) × (x ≡ n))
  at_old R n {p} {x} h = ⊎_elim (λ k. inl (record { here = k })) inr (found_old R n p x h.here)

  -- one place, two kinds of entry
  pub lead_not_seat : {R : List (Entry L)} {p u v : ℕ} → At R p (lead u) → At R p (seat v) → ⊥
  lead_not_seat {R} {p} {u} {v} h k = let q : lead u ≡ seat v = at_same h k in let z : ◌≡◌ {A = ℕ} 0 1 = cc in omega arith

  pub lead_not_carry : {R : List (Entry L)} {p u v : ℕ} {l : L} → At R p (lead u) → At R p (carry v l) → ⊥
  lead_not_carry {R} {p} {u} {v} {l} h k = let q : lead u ≡ carry v l = at_same h k in let z : ◌≡◌ {A = ℕ} 0 1 = cc in omega arith

  pub seat_not_carry : {R : List (Entry L)} {p u v : ℕ} {l : L} → At R p (seat u) → At R p (carry v l) → ⊥
  seat_not_carry {R} {p} {u} {v} {l} h k = let q : seat u ≡ carry v l = at_same h k in let z : ◌≡◌ {A = ℕ} 0 1 = cc in omega arith

  pub same_lead : {R : List (Entry L)} {p u v : ℕ} → At R p (lead u) → At R p (lead v) → u ≡ v
  same_lead {R} {p} {u} {v} h k = let q : ◌≡◌ {A = Entry L} (lead u) (lead v) = at_same h k in cc

  pub same_seat : {R : List (Entry L)} {p u v : ℕ} → At R p (seat u) → At R p (seat v) → u ≡ v
  same_seat {R} {p} {u} {v} h k = let q : ◌≡◌ {A = Entry L} (seat u) (seat v) = at_same h k in cc

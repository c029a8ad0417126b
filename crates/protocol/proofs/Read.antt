-- A worker reads an entry, or appends one.
use Rattle.std.proofs.Common.{◌≡◌, ℕ, suc, ◌<◌, ◌≤◌, true, false, List, [], ◌∷◌, ◌++◌, length, Some, sym, refl, ap, ◌∙◌, subst, ⊎_elim, arith}
use Rattle.std.proofs.lemmas.Bool.{both_ways}
use Rattle.roster.specs.declared.entry.Entry.{Entry}
use Rattle.protocol.specs.Words.{At}
use Rattle.roster.specs.declared.entry.Entry.TheVariants.{Lead as lead, Seat as seat, Carry as carry}
use Rattle.protocol.proofs.Places.{length_more, at_high, at_same, at_grow, at_last, at_old}
use Rattle.protocol.proofs.Inv.{Base, Facts, NoLead, Before, Global, Claim, LeaderOk, Quiet}
use Rattle.protocol.proofs.Put.{put}
use Rattle.protocol.proofs.Roles.{Seated, Leader, read_lead, read_seat, read_carry, leads, carries}
use Rattle.protocol.proofs.Tools.{put_both, none_not_some, same?, side}
use Rattle.protocol.proofs.Grow.{in_old, grow_noseat, grow_before, grow_global}
use Rattle.protocol.proofs.Append.{fresh_carry, knows_all, carry_line, carry_is_lead, carry_is_seat, seat_is_lead}

module _ {L : Type 0} where
  pub base_of : {R : List (Entry L)} {P A : Facts L} {B : ℕ → Seated L} {w : ℕ} {v : Leader L} → LeaderOk R P A B w v → Base R v
  base_of ok = record { fits = ok.fits; seat_read = ok.seat_read; seat_at = ok.seat_at; newest = ok.newest; marked = ok.marked; carries = ok.carries }

  pub with_base : {R : List (Entry L)} {P A : Facts L} {B : ℕ → Seated L} {w : ℕ} {v : Leader L} → Base R v → (v.taken ≡ true → 0 < v.c) → (0 < v.c → Claim R P A B w v) → LeaderOk R P A B w v
  with_base b idle claim = record { fits = b.fits; seat_read = b.seat_read; seat_at = b.seat_at; newest = b.newest; marked = b.marked; carries = b.carries; idle = idle; claim = claim }

  pub grow_base : {R : List (Entry L)} (n : Entry L) {v : Leader L} → Base R v → Base (R ++ (n ∷ [])) v
  grow_base {R} n {v} ok = record {
    fits = let z = ok.fits in let i = length_more R n in omega arith;
    seat_read = ok.seat_read;
    seat_at = λ h. at_grow n (ok.seat_at h);
    newest = grow_noseat n (let z = ok.fits in omega arith) ok.newest;
    marked = λ h. let z = ok.marked h in (z.0, grow_before n z.1);
    carries = λ le at. ok.carries le (in_old n (let z = ok.fits in omega arith) at);
  }

module _ {L : Type 0} {R : List (Entry L)} {v : Leader L} (b : Base R v) where
  -- a place up to the next, but not the next
  before-next : {q : ℕ} {y z : Entry L} → At R (suc v.r) z → At R q y → (y ≡ z → ⊥) → q ≤ suc v.r → q ≤ v.r
  before-next {q} {y} {z} next h apart le = ⊎_elim (λ lt. absurd (apart (at_same (subst (λ i. At R i y) (let e : q ≡ suc v.r = omega arith in e) h) next))) (λ i. i) (side v.r q)

  farther : {k : ℕ} {l : L} → Before R (suc v.r) k l → Before R (suc (suc v.r)) k l
  farther h = (h.0, (let z = h.1 in omega arith), h.2)

  pub base_lead : {u : ℕ} → At R (suc v.r) (lead u) → Base R (read_lead v)
  base_lead {u} next = record {
    fits = at_high next;
    seat_read = let z = b.seat_read in omega arith;
    seat_at = b.seat_at;
    newest = λ q x i j h. b.newest q x i (let z = before-next next h (λ eq. seat_is_lead eq) (omega arith) in omega arith) h;
    marked = λ h. let z = b.marked h in (z.0, farther z.1);
    carries = λ le h. b.carries (before-next next h (λ eq. carry_is_lead eq) le) h;
  }

  pub base_leads : {u : ℕ} → At R (suc v.r) (lead u) → Base R (leads v)
  base_leads {u} next = let z = base_lead next in record {
    fits = z.fits;
    seat_read = z.seat_read;
    seat_at = z.seat_at;
    newest = z.newest;
    marked = z.marked;
    carries = λ {q} {k} {l} le h. let y = z.carries le h in (y.0, rw y.0 y.1);
  }

  pub base_seat : {x : ℕ} → At R (suc v.r) (seat x) → Base R (read_seat x v)
  base_seat {x} next = record {
    fits = at_high next;
    seat_read = omega arith;
    seat_at = λ h. next;
    newest = λ q x i j h. omega arith;
    marked = λ h. let z = b.marked h in (z.0, farther z.1);
    carries = λ le h. b.carries (before-next next h (λ eq. carry_is_seat eq) le) h;
  }

  -- the marks after a Carry of k
  marks_more : {k : ℕ} {l : L} → At R (suc v.r) (carry k l) → {j : ℕ} → put v.carried k true j ≡ true → (m : L) × Before R (suc (suc v.r)) j m
  marks_more {k} {l} next {j} = put_both (λ t. t ≡ true → (m : L) × Before R (suc (suc v.r)) j m) v.carried k true j
      (λ here h. (l, (suc v.r, omega arith, subst (λ i. At R (suc v.r) (carry i l)) (sym here) next)))
      (λ apart h. let z = b.marked h in (z.0, farther z.1))

  module _ (one : (q j k : ℕ) (l m : L) → At R q (carry k l) → At R j (carry k m) → l ≡ m) where
    pub base_carry : {k : ℕ} {l : L} → At R (suc v.r) (carry k l) → Base R (read_carry k l v)
    base_carry {k} {l} next = record {
      fits = at_high next;
      seat_read = let z = b.seat_read in omega arith;
      seat_at = b.seat_at;
      newest = λ q x i j h. b.newest q x i (let z = before-next next h (λ eq. carry_is_seat (sym eq)) (omega arith) in omega arith) h;
      marked = marks_more next;
      carries = λ {q} {k = j} {l = m} le h. (
        put_both (λ t. t ≡ true) v.carried k true j (λ here. refl) (λ apart. (b.carries (before-next next h (λ eq. apart (carry_line eq).0) le) h).0),
        put_both (λ o. o ≡ Some m) v.hand k (Some l) j (λ here. ap Some (one _ _ _ _ _ next (subst (λ i. At R q (carry i m)) here h)))
            (λ apart. (b.carries (before-next next h (λ eq. apart (carry_line eq).0) le) h).1),
      );
    }

    pub base_mark : {k : ℕ} {l : L} → At R (suc v.r) (carry k l) → v.hand k ≡ Some l → Base R (carries k v)
    base_mark {k} {l} next inhand = record {
      fits = at_high next;
      seat_read = let z = b.seat_read in omega arith;
      seat_at = b.seat_at;
      newest = λ q x i j h. b.newest q x i (let z = before-next next h (λ eq. carry_is_seat (sym eq)) (omega arith) in omega arith) h;
      marked = marks_more next;
      carries = λ {q} {k = j} {l = m} le h. (
        put_both (λ t. t ≡ true) v.carried k true j (λ here. refl) (λ apart. (b.carries (before-next next h (λ eq. apart (carry_line eq).0) le) h).0),
        ⊎_elim (λ here. subst (λ i. v.hand i ≡ Some m) (sym here) (inhand ∙ ap Some (one _ _ _ _ _ next (subst (λ i. At R q (carry i m)) here h))))
            (λ apart. (b.carries (before-next next h (λ eq. apart (carry_line eq).0) le) h).1) (same? j k),
      );
    }

-- Read
module _ {L : Type 0} {R : List (Entry L)} {P A : Facts L} {B : ℕ → Seated L} (g : Global R P A B) {w : ℕ} {v : Leader L} (ok : LeaderOk R P A B w v) where
  pub reads_lead : {u : ℕ} → At R (suc v.r) (lead u) → LeaderOk R P A B w (read_lead v)
  reads_lead next = with_base (base_lead (base_of ok) next) (λ h. absurd (both_ways false refl h)) (λ h. absurd (let z : ⊥ = omega arith in z))

  -- who has a claim reads next a Lead
  no_claim : {y : Entry L} → At R (suc v.r) y → Quiet y → 0 < v.c → ⊥
  no_claim {y} next qu h = let n = (ok.claim h).next (at_high next) in subst Quiet (at_same next n.1) qu

  pub reads_seat : {x : ℕ} → At R (suc v.r) (seat x) → LeaderOk R P A B w (read_seat x v)
  reads_seat next = with_base (base_seat (base_of ok) next) ok.idle (λ h. absurd (no_claim next tt h))

  pub reads_carry : {k : ℕ} {l : L} → At R (suc v.r) (carry k l) → LeaderOk R P A B w (read_carry k l v)
  reads_carry next = with_base (base_carry (base_of ok) (λ q j k l m h i. g.carry_one h i) next) ok.idle (λ h. absurd (no_claim next tt h))

  -- the worker appends at the end of what it has read
  module _ (all : v.r ≡ length R) where
    at_next : (n : Entry L) → At (R ++ (n ∷ [])) (suc v.r) n
    at_next n = subst (λ i. At (R ++ (n ∷ [])) (suc i) n) (sym all) (at_last R n)

    no_more : (n : Entry L) {X : Type 0} → suc v.r < length (R ++ (n ∷ [])) → X
    no_more n h = absurd (let z = length_more R n in let y : ⊥ = omega arith in y)

    newest_lead' : (n : Entry L) → Quiet n → {c : ℕ} → NoLead R c (suc v.r) → NoLead (R ++ (n ∷ [])) c (suc (suc v.r))
    newest_lead' n qu none q u i j h = ⊎_elim (λ o. none q u i (let z = at_high o in omega arith) o) (λ o. subst Quiet (sym o.1) qu) (at_old R n h)

    pub own_lead : 0 < v.e → LeaderOk (R ++ (lead w ∷ [])) P A B w (leads v)
    own_lead sits = with_base (base_leads (grow_base (lead w) (base_of ok)) (at_next (lead w))) (λ h. absurd (both_ways false refl h))
        (λ h. record {
          mine = at_next (lead w);
          read = omega arith;
          sits = sits;
          newest = λ q u i j at. omega arith;
          next = no_more (lead w);
          moved = λ lt. absurd (let z = ok.seat_read in let y : ⊥ = omega arith in y);
          knows = λ t a le. absurd (both_ways false refl t);
          proposed = λ p. absurd (let z = at_high (g.valid p).lead_at in let y : ⊥ = omega arith in y);
          past = λ t lt. absurd (both_ways false refl t);
          counted = λ t n. absurd (none_not_some refl n);
          told = λ t h. absurd (both_ways false refl h);
        })

    module _ (has : 0 < v.c) (tk : v.taken ≡ true) where
      cl : Claim R P A B w v
      cl = ok.claim has

      pub own_carry : (k : ℕ) (l : L) → v.hand k ≡ Some l → v.carried k ≡ false → LeaderOk (R ++ (carry k l ∷ [])) P A B w (carries k v)
      own_carry k l inhand unmarked =
          let g' = grow_global (carry k l) g (fresh_carry g ok has tk all k l inhand unmarked) in
          with_base (base_mark (grow_base (carry k l) (base_of ok)) (λ q j k l m h i. g'.carry_one h i) (at_next (carry k l)) inhand) (λ h. has)
          (λ h. record {
            mine = at_grow (carry k l) cl.mine;
            read = let z = cl.read in omega arith;
            sits = cl.sits;
            newest = newest_lead' (carry k l) tt cl.newest;
            next = no_more (carry k l);
            moved = cl.moved;
            knows = cl.knows;
            proposed = cl.proposed;
            past = cl.past;
            counted = cl.counted;
            told = cl.told;
          })

      pub own_seat : (b : ℕ) → LeaderOk (R ++ (seat b ∷ [])) P A B w (read_seat b v)
      own_seat b = with_base (base_seat (grow_base (seat b) (base_of ok)) (at_next (seat b))) (λ h. has)
          (λ h. record {
            mine = at_grow (seat b) cl.mine;
            read = let z = cl.read in omega arith;
            sits = omega arith;
            newest = newest_lead' (seat b) tt cl.newest;
            next = no_more (seat b);
            moved = λ lt. tk;
            knows = λ t a le. knows_all g ok has tk all a;
            proposed = cl.proposed;
            past = λ t lt. absurd (let z = cl.read in let y : ⊥ = omega arith in y);
            counted = λ t n. absurd (both_ways v.taken t tk);
            told = λ t n. absurd (both_ways v.taken t tk);
          })

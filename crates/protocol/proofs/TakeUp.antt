-- A Promise or a Report comes to a worker whose claim is not taken up.
use Rattle.std.proofs.Common.{◌≡◌, ℕ, zero, suc, ◌+◌, ◌<◌, ◌≤◌, Bool, true, false, List, Some, None, Option, sym, refl, ap, ◌∙◌, subst, ⊎_elim, arith}
use Rattle.std.proofs.lemmas.Bool.{eqb-true, both_ways}
use Rattle.roster.specs.declared.entry.Entry.{Entry}
use Rattle.protocol.specs.Words.{At, bump, tally}
use Rattle.roster.specs.declared.entry.Entry.TheVariants.{Carry as carry}
use Rattle.protocol.proofs.Inv.{Facts, Counts, NoneSent, Upto, HasPromised, Global, Claim, LeaderOk}
use Rattle.protocol.proofs.Put.{put}
use Rattle.protocol.proofs.Roles.{Seated, Leader, ready, settle, counts, reports}
use Rattle.protocol.proofs.Tools.{put_both, put_here, put_apart, some_same, same?, side, order, weaker}

bump_le : (a b : Bool) (m n : ℕ) → (a ≡ true → b ≡ true) → m ≤ n → bump a m ≤ bump b n
bump_le true true m n h le = omega arith
bump_le true false m n h le = absurd (both_ways false refl (h refl))
bump_le false true m n h le = omega arith
bump_le false false m n h le = le

tally_le : (f g : ℕ → Bool) (n : ℕ) → ((k : ℕ) → g k ≡ true → f k ≡ true) → tally g n ≤ tally f n
tally_le f g zero sub = omega arith
tally_le f g (suc n) sub = bump_le (g (suc n)) (f (suc n)) (tally g n) (tally f n) (sub (suc n)) (tally_le f g n sub)

bump_last : (a b : Bool) (m n : ℕ) → m ≤ n → bump a m ≡ bump b n → b ≡ true → a ≡ true
bump_last true b m n le eq h = refl
bump_last false true m n le eq h = absurd (let z : ⊥ = omega arith in z)
bump_last false false m n le eq h = h

bump-rest : (a b : Bool) (m n : ℕ) → (a ≡ true → b ≡ true) → m ≤ n → bump a m ≡ bump b n → m ≡ n
bump-rest true true m n h le eq = omega arith
bump-rest true false m n h le eq = absurd (both_ways false refl (h refl))
bump-rest false true m n h le eq = omega arith
bump-rest false false m n h le eq = eq

-- a part with as many members is the whole
pub tally-all : (f g : ℕ → Bool) (n : ℕ) → ((k : ℕ) → g k ≡ true → f k ≡ true) → tally g n ≡ tally f n → (k : ℕ) → (0 < k) × (k ≤ n) → f k ≡ true → g k ≡ true
tally-all f g zero sub eq k lt h = absurd (let z : ⊥ = omega arith in z)
tally-all f g (suc n) sub eq k lt h = ⊎_elim
    (λ less. tally-all f g n sub (bump-rest (g (suc n)) (f (suc n)) (tally g n) (tally f n) (sub (suc n)) (tally_le f g n sub) eq) k (lt.0, omega arith) h)
    (λ ge. let same : suc n ≡ k = omega arith in
    subst (λ i. g i ≡ true) same (bump_last (g (suc n)) (f (suc n)) (tally g n) (tally f n) (tally_le f g n sub) eq (subst (λ i. f i ≡ true) (sym same) h)))
    (side k (suc n))

-- the same, where only lines 1 to n count
pub tally_part : (f g : ℕ → Bool) (n : ℕ) → ((k : ℕ) → 0 < k → k ≤ n → g k ≡ true → f k ≡ true) → tally g n ≤ tally f n
tally_part f g zero sub = omega arith
tally_part f g (suc n) sub = bump_le (g (suc n)) (f (suc n)) (tally g n) (tally f n) (sub (suc n) (omega arith) (omega arith)) (tally_part f g n (λ k i j h. sub k i (omega arith) h))

pub tally_grows : (f : ℕ → Bool) (n m : ℕ) → tally f n ≤ tally f (n + m)
tally_grows f n zero = subst (λ i. tally f n ≤ tally f i) (let e : n ≡ n + 0 = omega arith in e) (omega arith)
tally_grows f n (suc m) = subst (λ i. tally f n ≤ tally f i) (let e : suc (n + m) ≡ n + suc m = omega arith in e)
    (let a = tally_grows f n m in let b = bump_le false (f (suc (n + m))) (tally f (n + m)) (tally f (n + m)) (λ h. absurd (both_ways false refl h)) (omega arith) in omega arith)

ready_count : (o : Option ℕ) (f : ℕ → Bool) → ready o f ≡ true → (n : ℕ) × (o ≡ Some n) × (n ≡ tally f 64)
ready_count None f h = absurd (both_ways false refl h)
ready_count (Some n) f h = (n, refl, eqb-true n (tally f 64) h)

module _ {L : Type 0} {R : List (Entry L)} {P A : Facts L} {B : ℕ → Seated L} (g : Global R P A B) {w : ℕ} {v : Leader L} (ok : LeaderOk R P A B w v)
    (has : 0 < v.c) (un : v.taken ≡ false) where
  cl : Claim R P A B w v
  cl = ok.claim has

  untaken : {X : Type 0} → v.taken ≡ true → X
  untaken h = absurd (both_ways v.taken un h)

  silent : NoneSent P v.e v.c
  silent k l p = untaken (cl.proposed p).0

  -- two accepted lines of one number
  acc_one : {e c f d k : ℕ} {l m : L} → A e c k l → A f d k m → l ≡ m
  acc_one {e} {c} {f} {d} a b = ⊎_elim (λ le. g.main a (g.sent b) le) (λ lt. sym (g.main b (g.sent a) (weaker lt))) (order e c f d)

  -- all Reports have come
  informed : (n : ℕ) → v.count ≡ Some n → n ≡ tally v.reported 64 → {e c k : ℕ} {l : L} → A e c k l → Upto e c v.e v.c → v.hand k ≡ Some l
  informed n come many {e} {c} {k} {l} a le = ⊎_elim earlier (λ ge. same (let z = le.low in omega arith)) (side e v.e)
    where
      earlier : e < v.e → v.hand k ≡ Some l
      earlier lt = let b = g.carry_acc (ok.seat_at cl.sits) a lt in (ok.carries (let i = b.1 in let j = ok.seat_read in omega arith) b.2).1

      cts : Counts A v.e v.c n
      cts = (cl.counted un come).1 silent

      part : (j : ℕ) → v.reported j ≡ true → cts.f j ≡ true
      part j h = let z = cl.told un h in cts.whole z.2 z.3

      same : e ≡ v.e → v.hand k ≡ Some l
      same eq =
          let a' : A v.e c k l = subst (λ i. A i c k l) eq a in
          let in-set : cts.f k ≡ true = cts.whole (le.tie (omega arith)) a' in
          let z = cl.told un (tally-all cts.f v.reported 64 part (sym many ∙ cts.many) k (cts.small in-set) in-set) in
          z.4 ∙ ap Some (acc_one z.3 a)

  pub settle_ok : LeaderOk R P A B w (settle v)
  settle_ok = record {
    fits = ok.fits;
    seat_read = ok.seat_read;
    seat_at = ok.seat_at;
    newest = ok.newest;
    marked = ok.marked;
    carries = ok.carries;
    idle = λ h. has;
    claim = λ h. record {
      mine = cl.mine;
      read = cl.read;
      sits = cl.sits;
      newest = cl.newest;
      next = cl.next;
      moved = λ lt. untaken (cl.moved lt);
      knows = λ t a le. let z = ready_count v.count v.reported t in informed z.0 z.1 z.2 a le;
      proposed = λ p. untaken (cl.proposed p).0;
      past = λ t lt. let z = ready_count v.count v.reported t in (cl.counted un z.1).0;
      counted = λ t n. cl.counted un n;
      told = λ t h. cl.told un h;
    };
  }

  pub count_ok : (n : ℕ) → HasPromised B v.a v.e v.c → (NoneSent P v.e v.c → Counts A v.e v.c n) → LeaderOk R P A B w (counts n v)
  count_ok n past right = record {
    fits = ok.fits;
    seat_read = ok.seat_read;
    seat_at = ok.seat_at;
    newest = ok.newest;
    marked = ok.marked;
    carries = ok.carries;
    idle = ok.idle;
    claim = λ h. record {
      mine = cl.mine;
      read = cl.read;
      sits = cl.sits;
      newest = cl.newest;
      next = cl.next;
      moved = cl.moved;
      knows = cl.knows;
      proposed = cl.proposed;
      past = cl.past;
      counted = λ t {n = m} eq. (past, subst (λ i. NoneSent P v.e v.c → Counts A v.e v.c i) (some_same refl eq) right);
      told = cl.told;
    };
  }

  pub report_ok : (k d : ℕ) (l : L) → d ≤ v.c → A v.e d k l → LeaderOk R P A B w (reports k l v)
  report_ok k d l le a = record {
    fits = ok.fits;
    seat_read = ok.seat_read;
    seat_at = ok.seat_at;
    newest = ok.newest;
    marked = ok.marked;
    carries = λ {q} {k = j} {l = m} i at. let z = ok.carries i at in
        (z.0, put_both (λ o. o ≡ Some m) v.hand k (Some l) j (λ here. ap Some (g.acc_carry a (subst (λ s. At R q (carry s m)) here at))) (λ apart. z.1));
    idle = ok.idle;
    claim = λ h. record {
      mine = cl.mine;
      read = cl.read;
      sits = cl.sits;
      newest = cl.newest;
      next = cl.next;
      moved = cl.moved;
      knows = λ t b i. untaken t;
      proposed = λ p. untaken (cl.proposed p).0;
      past = cl.past;
      counted = cl.counted;
      told = λ t {k = j}. told_more j;
    };
  }
    where
      told_more : (j : ℕ) → put v.reported k true j ≡ true → (d : ℕ) × (m : L) × (d ≤ v.c) × A v.e d j m × (put v.hand k (Some l) j ≡ Some m)
      told_more j h = ⊎_elim
          (λ here. (d, l, le, subst (λ i. A v.e d i l) (sym here) a, subst (λ i. put v.hand k (Some l) i ≡ Some l) (sym here) (put_here v.hand k (Some l))))
          (λ apart. let z = cl.told un (sym (put_apart v.reported k true j apart) ∙ h) in (z.0, z.1, z.2, z.3, put_apart v.hand k (Some l) j apart ∙ z.4))
          (same? j k)

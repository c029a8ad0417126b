-- A set of lines as a word of 64 bits, and cells of all workers as one table.
use Rattle.std.proofs.Common.{◌≡◌, ℕ, zero, suc, ◌+◌, ◌-◌, ◌*◌, ◌/◌, ◌%◌, ◌^◌, ◌<◌, ◌≤◌, Bool, true, false, cond, eqb, ltb, leb, List, length, get_or, set, None, Option, sym, refl, ap, ◌∙◌, subst, ap₂, ⊎_elim, zero-mul, add-one, arith, length-set}
use mathlib.Core.Path.{fun_ext}
use lib.Bits.{bit_or, bit_and, or_shr, or_mod, or_zero_r, and_zero_r, and_high, or_lt}
use lib.Count.{ones, ones_cat}
use Rattle.std.proofs.lemmas.Nat.{shr_split, field_of, pow_pos, pow-add, shl-shr, pow_below, shr_below, mod_below, mod-pow-add}
use Rattle.std.proofs.lemmas.List.{get_or-set_same, get_or-set_other}
use Rattle.std.proofs.lemmas.Bool.{and_parts, and_from, ltb-true, leb-true, lt-ltb, le-leb, cases_Bool, cond_both, cond-true, cond-false, both_ways}
use Rattle.protocol.specs.Words.{bump, tally}
use Rattle.protocol.proofs.Put.{put}
use Rattle.protocol.proofs.Model.{line_ok}
use Rattle.protocol.specs.Lines.{in_book, bit_of, marked, cell_of}
use Rattle.protocol.specs.Store.{cleared}
use Rattle.protocol.proofs.Tools.{put_both, put_here, put_apart, side, three}

-- line k is in the set m
abbrev pub mask : ℕ → ℕ → Bool
mask m zero = false
mask m (suc i) = eqb (m / 2 ^ i % 2) 1

-- the cell of line k of worker w in one table
abbrev pub cell : {X : Type 0} → List (Option X) → ℕ → ℕ → Option X
cell t w k = cond (line_ok k) (get_or t (64 * w + (k - 1)) None) None

-- of the first n cells from place b on, those that are not kept are emptied
abbrev pub wipe : {X : Type 0} → List (Option X) → ℕ → (ℕ → Bool) → ℕ → List (Option X)
wipe t b keep zero = t
wipe t b keep (suc i) = cond (keep (suc i)) (wipe t b keep i) (set (wipe t b keep i) (b + i) None)

tally_same : (f g : ℕ → Bool) (n : ℕ) → ((k : ℕ) → 0 < k → k ≤ n → f k ≡ g k) → tally f n ≡ tally g n
tally_same f g zero h = refl
tally_same f g (suc n) h = ap (λ b. bump b (tally f n)) (h (suc n) (omega arith) (omega arith)) ∙ ap (bump (g (suc n))) (tally_same f g n (λ k lo hi. h k lo (omega arith)))

ones_bit : (a : ℕ) → a < 2 → (n : ℕ) → ones a + n ≡ bump (eqb (a % 2) 1) n
unfolding ones
ones_bit zero h n = omega arith
ones_bit (suc zero) h n = omega arith
ones_bit (suc (suc a)) h n = absurd (let z : ⊥ = omega arith in z)

even_pow : (d x : ℕ) → x % 2 ^ suc d % 2 ≡ x % 2
even_pow d x = let z = mod-pow-add x d 1 in let e : x % 2 ^ (d + 1) ≡ x % 2 ^ suc d = ap (λ i. x % 2 ^ i) (let q : d + 1 ≡ suc d = omega arith in q) in omega arith

low_bits : (m n i : ℕ) → i < n → m % 2 ^ n / 2 ^ i % 2 ≡ m / 2 ^ i % 2
low_bits m n i h =
    let e : suc (n - suc i) + i ≡ n = omega arith in
    ap (λ j. m % 2 ^ j / 2 ^ i % 2) (sym e) ∙ ap (λ j. j % 2) (field_of m (suc (n - suc i)) i) ∙ even_pow (n - suc i) (m / 2 ^ i)

pub ones_tally : (n m : ℕ) → m < 2 ^ n → ones m ≡ tally (mask m) n
unfolding ones
ones_tally zero m h = ap ones (let e : m ≡ 0 = omega arith in e)
ones_tally (suc n) m h =
    let a = m / 2 ^ n in
    let r = m % 2 ^ n in
    let top : m / 2 ^ n < 2 = shr_below m 1 n (subst (λ i. m < 2 ^ i) (let e : suc n ≡ 1 + n = omega arith in e) h) in
    let low : m % 2 ^ n < 2 ^ n = mod_below m (2 ^ n) (pow_pos n) in
    ap ones (sym (shr_split m n)) ∙ ones_cat n (m / 2 ^ n) (m % 2 ^ n) low
    ∙ ap (λ i. ones (m / 2 ^ n) + i) (ones_tally n (m % 2 ^ n) low ∙ tally_same (mask (m % 2 ^ n)) (mask m) n same)
    ∙ ones_bit (m / 2 ^ n) top (tally (mask m) n)
  where
    same : (k : ℕ) → 0 < k → k ≤ n → mask (m % 2 ^ n) k ≡ mask m k
    same zero lo hi = refl
    same (suc i) lo hi = ap (λ b. eqb b 1) (low_bits m n i (omega arith))

or_one : (x : ℕ) → x < 2 → eqb (bit_or x 1) 1 ≡ true
or_one zero h = refl
or_one (suc zero) h = refl
or_one (suc (suc x)) h = absurd (let z : ⊥ = omega arith in z)

pow_bit : (j i : ℕ) → (i ≡ j → ⊥) → 2 ^ j / 2 ^ i % 2 ≡ 0
pow_bit j i apart = ⊎_elim
    (λ lt. let e : 2 ^ j ≡ 2 ^ suc (j - suc i) * 2 ^ i = ap (λ q. 2 ^ q) (let q : j ≡ suc (j - suc i) + i = omega arith in q) ∙ pow-add 2 (suc (j - suc i)) i in
    ap (λ q. q / 2 ^ i % 2) e ∙ ap (λ q. q % 2) (shl-shr (2 ^ suc (j - suc i)) i) ∙ (let z : 2 ^ suc (j - suc i) ≡ 2 * 2 ^ (j - suc i) = omega arith in omega arith))
    (⊎_elim (λ eq. absurd (apart eq)) (λ gt. let z : 2 ^ j / 2 ^ i < 1 = shr_below (2 ^ j) 0 i (subst (λ q. 2 ^ j < 2 ^ q) (let q : i ≡ 0 + i = omega arith in q) (pow_below j i gt)) in omega arith))
    (three i j)

pub mask_or : (m j k : ℕ) → mask (bit_or m (2 ^ j)) k ≡ put (mask m) (suc j) true k
mask_or m j zero = sym (put_apart (mask m) (suc j) true 0 (λ h. omega arith))
mask_or m j (suc i) =
    let step : bit_or m (2 ^ j) / 2 ^ i % 2 ≡ bit_or (m / 2 ^ i % 2) (2 ^ j / 2 ^ i % 2) = ap (λ q. q % 2) (or_shr m (2 ^ j) i) ∙ or_mod (m / 2 ^ i) (2 ^ j / 2 ^ i) 1 in
    ap (λ q. eqb q 1) step ∙ put_both (λ t. eqb (bit_or (m / 2 ^ i % 2) (2 ^ j / 2 ^ i % 2)) 1 ≡ t) (mask m) (suc j) true (suc i)
    (λ here. let same : i ≡ j = omega arith in
    let one : 2 ^ j / 2 ^ i % 2 ≡ 1 = ap (λ q. 2 ^ j / 2 ^ q % 2) same ∙ ap (λ q. q / 2 ^ j % 2) (let e : 2 ^ j ≡ 1 * 2 ^ j = omega arith in e) ∙ ap (λ q. q % 2) (shl-shr 1 j) in
    ap (λ q. eqb (bit_or (m / 2 ^ i % 2) q) 1) one ∙ or_one (m / 2 ^ i % 2) (mod_below (m / 2 ^ i) 2 (omega arith)))
    (λ apart. ap (λ q. eqb (bit_or (m / 2 ^ i % 2) q) 1) (pow_bit j i (λ e. apart (ap suc e))) ∙ ap (λ q. eqb q 1) (or_zero_r (m / 2 ^ i % 2)))

pub line_range : (k : ℕ) → line_ok k ≡ true → (0 < k) × (k ≤ 64)
line_range k h = let z = and_parts (ltb 0 k) (leb k 64) h in (ltb-true 0 k z.0, leb-true k 64 z.1)

line_from : (k : ℕ) → (0 < k) × (k ≤ 64) → line_ok k ≡ true
line_from k h = and_from (ltb 0 k) (leb k 64) (lt-ltb 0 k h.0) (le-leb k 64 h.1)

-- at another place
cell_other : {X : Type 0} (t : List (Option X)) (w k : ℕ) (o : Option X) → (0 < k) × (k ≤ 64) → (u j : ℕ) → ((u ≡ w) × (j ≡ k) → ⊥) → cell (set t (64 * w + (k - 1)) o) u j ≡ cell t u j
cell_other t w k o line u j apart = ⊎_elim
    (λ ok. let r = line_range j ok in
    ap (λ q. cond (line_ok j) q None) (get_or-set_other t (64 * w + (k - 1)) (64 * u + (j - 1)) o None (λ e. apart (omega arith, omega arith))))
    (λ bad. (let z : cell (set t (64 * w + (k - 1)) o) u j ≡ None = rw bad in z) ∙ sym (let z : cell t u j ≡ None = rw bad in z))
    (cases_Bool (line_ok j))

pub cell_set : {X : Type 0} (t : List (Option X)) (n w k : ℕ) (o : Option X) → length t ≡ 64 * n → w < n → (0 < k) × (k ≤ 64) → (u j : ℕ) → cell (set t (64 * w + (k - 1)) o) u j ≡ put (cell t) w (put (cell t w) k o) u j
cell_set t n w k o len low line u j = put_both (λ f. cell (set t (64 * w + (k - 1)) o) u j ≡ f j) (cell t) w (put (cell t w) k o) u
    (λ here. put_both (λ q. cell (set t (64 * w + (k - 1)) o) u j ≡ q) (cell t w) k o j
    (λ at. let z : cell (set t (64 * w + (k - 1)) o) w k ≡ o = (let ok = line_from k line in rw ok (get_or-set_same t (64 * w + (k - 1)) o None (omega arith))) in
    ap (λ q. cell (set t (64 * w + (k - 1)) o) q j) here ∙ ap (cell (set t (64 * w + (k - 1)) o) w) at ∙ z)
    (λ apart. cell_other t w k o line u j (λ e. apart e.1) ∙ ap (λ q. cell t q j) here))
    (λ apart. cell_other t w k o line u j (λ e. apart e.0))

module _ {X : Type 0} (t : List (Option X)) (n w : ℕ) (keep : ℕ → Bool) (len : length t ≡ 64 * n) (low : w < n) where
  pub wipe_length : (i : ℕ) → length (wipe t (64 * w) keep i) ≡ 64 * n
  wipe_length zero = len
  wipe_length (suc i) = cond_both (keep (suc i)) (wipe t (64 * w) keep i) (set (wipe t (64 * w) keep i) (64 * w + i) None) (λ q. length q ≡ 64 * n) (λ h. wipe_length i) (λ h. length-set (wipe t (64 * w) keep i) (64 * w + i) None ∙ wipe_length i)

  -- one more cell is emptied
  wiped : (i : ℕ) → i < 64 → (u j : ℕ) → cell (set (wipe t (64 * w) keep i) (64 * w + i) None) u j ≡ put (cell (wipe t (64 * w) keep i)) w (put (cell (wipe t (64 * w) keep i) w) (suc i) None) u j
  wiped i h u j = ap (λ q. cell (set (wipe t (64 * w) keep i) (64 * w + q) None) u j) (let e : i ≡ suc i - 1 = omega arith in e) ∙ cell_set (wipe t (64 * w) keep i) n w (suc i) None (wipe_length i) low (omega arith, omega arith) u j

  pub wipe_other : (i : ℕ) → i ≤ 64 → (u j : ℕ) → ((u ≡ w) × (j ≤ i) → ⊥) → cell (wipe t (64 * w) keep i) u j ≡ cell t u j
  wipe_other zero hi u j apart = refl
  wipe_other (suc i) hi u j apart =
      let old = wipe_other i (omega arith) u j (λ e. apart (e.0, (let z = e.1 in omega arith))) in
      cond_both (keep (suc i)) (wipe t (64 * w) keep i) (set (wipe t (64 * w) keep i) (64 * w + i) None) (λ q. cell q u j ≡ cell t u j) (λ h. old)
      (λ h. wiped i (omega arith) u j ∙ put_both (λ f. f j ≡ cell t u j) (cell (wipe t (64 * w) keep i)) w (put (cell (wipe t (64 * w) keep i) w) (suc i) None) u
      (λ here. put_apart (cell (wipe t (64 * w) keep i) w) (suc i) None j (λ e. apart (here, omega arith)) ∙ ap (λ q. cell (wipe t (64 * w) keep i) q j) (sym here) ∙ old)
      (λ away. old))

  wipe_own : (i : ℕ) → i ≤ 64 → (j : ℕ) → 0 < j → j ≤ i → cell (wipe t (64 * w) keep i) w j ≡ cond (keep j) (cell t w j) None
  wipe_own zero hi j lo le = absurd (let z : ⊥ = omega arith in z)
  wipe_own (suc i) hi j lo le = ⊎_elim
      (λ less. let old = wipe_own i (omega arith) j lo (omega arith) in
      cond_both (keep (suc i)) (wipe t (64 * w) keep i) (set (wipe t (64 * w) keep i) (64 * w + i) None) (λ q. cell q w j ≡ cond (keep j) (cell t w j) None) (λ h. old)
      (λ h. wiped i (omega arith) w j ∙ ap (λ f. f j) (put_here (cell (wipe t (64 * w) keep i)) w (put (cell (wipe t (64 * w) keep i) w) (suc i) None))
      ∙ put_apart (cell (wipe t (64 * w) keep i) w) (suc i) None j (λ e. omega arith) ∙ old))
      (λ ge. let same : j ≡ suc i = omega arith in
      subst (λ q. cell (wipe t (64 * w) keep (suc i)) w q ≡ cond (keep q) (cell t w q) None) (sym same)
      (last (wipe_other i (omega arith) w (suc i) (λ e. let z = e.1 in omega arith)) (keep (suc i)) refl))
      (side j (suc i))
    where
      last : cell (wipe t (64 * w) keep i) w (suc i) ≡ cell t w (suc i) → (b : Bool) → keep (suc i) ≡ b → cell (wipe t (64 * w) keep (suc i)) w (suc i) ≡ cond (keep (suc i)) (cell t w (suc i)) None
      last old true eq = rw eq old
      last old false eq = rw eq (wiped i (omega arith) w (suc i) ∙ ap (λ f. f (suc i)) (put_here (cell (wipe t (64 * w) keep i)) w (put (cell (wipe t (64 * w) keep i) w) (suc i) None)) ∙ put_here (cell (wipe t (64 * w) keep i) w) (suc i) None)

  -- line numbers out of range have no cell
  pub wipe_row : (j : ℕ) → cell (wipe t (64 * w) keep 64) w j ≡ cond (keep j) (cell t w j) None
  wipe_row j = ⊎_elim
      (λ ok. let r = line_range j ok in wipe_own 64 (omega arith) j r.0 r.1)
      (λ bad. (let z : cell (wipe t (64 * w) keep 64) w j ≡ None = rw bad in z) ∙ cond_both (keep j) (cell t w j) None (λ q. None ≡ q) (λ h. sym (let z : cell t w j ≡ None = rw bad in z)) (λ h. refl))
      (cases_Bool (line_ok j))

-- the marks of the code
bit_and_lem : (m i : ℕ) → bit_and m (2 ^ i) ≡ m / 2 ^ i % 2 * 2 ^ i
bit_and_lem m i = ap (bit_and m) (let z : 2 ^ (1 + i) ≡ 2 * 2 ^ i = pow-add 2 1 i in let e : 2 ^ i ≡ 2 ^ (1 + i) - 2 ^ i = omega arith in e) ∙ and_high m 1 i

bit_test : (b i : ℕ) → b < 2 → ltb 0 (b * 2 ^ i) ≡ eqb b 1
bit_test zero i h = ap (ltb 0) (zero-mul (2 ^ i))
bit_test (suc zero) i h = lt-ltb 0 (1 * 2 ^ i) (let z = pow_pos i in omega arith)
bit_test (suc (suc b)) i h = absurd (let z : ⊥ = omega arith in z)

marked_mask : (m k : ℕ) → in_book k ≡ true → marked m k ≡ mask m k
marked_mask m zero h = absurd (both_ways false refl h)
marked_mask m (suc i) h =
    ap (λ q. ltb 0 (bit_and m q)) (cond-true (in_book (suc i)) (2 ^ (suc i - 1)) 0 h) ∙ ap (λ q. ltb 0 (bit_and m (2 ^ q))) (let e : suc i - 1 ≡ i = omega arith in e)
    ∙ ap (ltb 0) (bit_and_lem m i) ∙ bit_test (m / 2 ^ i % 2) i (mod_below (m / 2 ^ i) 2 (omega arith))

and_zero : (m : ℕ) → bit_and m 0 ≡ 0
and_zero m = and_zero_r m

marked_out : (m k : ℕ) → in_book k ≡ false → marked m k ≡ false
marked_out m k h = ap (λ q. ltb 0 (bit_and m q)) (cond-false (in_book k) (2 ^ (k - 1)) 0 h) ∙ ap (ltb 0) (and_zero m)

pub marked_or : (m k : ℕ) → in_book k ≡ true → (j : ℕ) → marked (bit_or m (bit_of k)) j ≡ put (marked m) k true j
marked_or m k ok j = ⊎_elim
    (λ inside. marked_mask (bit_or m (bit_of k)) j inside ∙ ap (λ q. mask (bit_or m q) j) (cond-true (in_book k) (2 ^ (k - 1)) 0 ok) ∙ mask_or m (k - 1) j
    ∙ ap (λ i. put (mask m) i true j) (let r = line_range k ok in let e : suc (k - 1) ≡ k = omega arith in e)
    ∙ ap (cond (eqb j k) true) (sym (marked_mask m j inside)))
    (λ out. marked_out (bit_or m (bit_of k)) j out ∙ sym (put_apart (marked m) k true j (λ e. both_ways (in_book k) (subst (λ i. in_book i ≡ false) e out) ok) ∙ marked_out m j out))
    (cases_Bool (in_book j))

pub ones_marked : (m : ℕ) → m < 2 ^ 64 → ones m ≡ tally (marked m) 64
ones_marked m h = ones_tally 64 m h ∙ tally_same (mask m) (marked m) 64 (λ k lo hi. sym (marked_mask m k (line_from k (lo, hi))))

pub or_fits : (m k : ℕ) → m < 2 ^ 64 → bit_or m (bit_of k) < 2 ^ 64
or_fits m k h = or_lt 64 m (bit_of k) h (cond_both (in_book k) (2 ^ (k - 1)) 0 (λ q. q < 2 ^ 64) (λ ok. let r = line_range k ok in pow_below (k - 1) 64 (omega arith)) (λ out. pow_pos 64))

-- a table with one cell changed, or with a worker's unmarked cells emptied
module _ {X : Type 0} (t : List (Option X)) (n w : ℕ) (len : length t ≡ 64 * n) (low : w < n) where
  pub set_own : (k : ℕ) (o : Option X) → in_book k ≡ true → cell (set t (cell_of w k) o) w ≡ put (cell t w) k o
  set_own k o ok = fun_ext (λ j. cell_set t n w k o len low (line_range k ok) w j ∙ ap (λ f. f j) (put_here (cell t) w (put (cell t w) k o)))

  pub set_away : (k : ℕ) (o : Option X) → in_book k ≡ true → (u : ℕ) → (u ≡ w → ⊥) → cell (set t (cell_of w k) o) u ≡ cell t u
  set_away k o ok u apart = fun_ext (λ j. cell_set t n w k o len low (line_range k ok) u j ∙ ap (λ f. f j) (put_apart (cell t) w (put (cell t w) k o) u apart))

  is_wipe : (c i : ℕ) → cleared c w i t ≡ wipe t (64 * w) (marked c) i
  unfolding cleared
  is_wipe c zero = refl
  is_wipe c (suc i) = ap₂ (λ b q. cond b q (set q (64 * w + i) None)) (ap (marked c) (add-one i)) (is_wipe c i)

  pub clear_own : (c : ℕ) → cell (cleared c w 64 t) w ≡ (λ j. cond (marked c j) (cell t w j) None)
  clear_own c = ap (λ q. cell q w) (is_wipe c 64) ∙ fun_ext (wipe_row t n w (marked c) len low)

  pub clear_away : (c u : ℕ) → (u ≡ w → ⊥) → cell (cleared c w 64 t) u ≡ cell t u
  clear_away c u apart = ap (λ q. cell q u) (is_wipe c 64) ∙ fun_ext (λ j. wipe_other t n w (marked c) len low 64 (omega arith) u j (λ e. apart e.0))

  pub clear-length : (c : ℕ) → length (cleared c w 64 t) ≡ 64 * n
  clear-length c = ap length (is_wipe c 64) ∙ wipe_length t n w (marked c) len low 64

-- The charge of every sheet lies from 0 to the largest charge: a product of two floats that are not negative is not negative, and a difference that
-- is not negative rounds to no more than what it was taken from, since rounding keeps the order.
use Rattle.std.proofs.Common.{◌≡◌, ℕ, zero, suc, ◌+◌, ◌-◌, ◌*◌, ◌^◌, ◌<◌, ◌≤◌, Bool, true, false, cond, ◌&&◌, ◌||◌, T, eqb, ltb, leb, List, [], ◌∷◌, ℤ, sym, refl, subst, true≢false, le_trans, le_of_eq, mul-le-mul_right, mul_assoc, mul-pos, mul-one, arith, lit≤, leb→le}
use Rattle.std.proofs.lemmas.Bool.Decides.{nat_tests}
use lib.Ieee.{Float, Format, nan, inf, fin, binary64, up, down, prec, low, emax, odd, units, round, of_int, lt, le, mul, sub}
use lib.Ieee.Exact.{HasValue}
use lib.Ieee.Back.{round_whole}
use lib.Ieee.Fits.{down_pos, round_is, and_l, and_r}
use lib.Ieee.Order.{round_mono, le_of_values}
use lib.Ieee.Scale.{finite}
use Rattle.pack.specs.declared.line.PackLine.{PackLine}
use Rattle.pack.specs.declared.line.PackLine.TheVariants.{Begin, Drain, Idle}
use Rattle.pack.specs.declared.sheet.PackSheet.{PackSheet}
use Rattle.pack.specs.Standard.{whole, charge_most, current_least, current_most, seconds_least, seconds_most, fit_charge, fit_current, fit_seconds}
use Rattle.pack.specs.Sheets.{drained, worked, refused_line, applied, worked_on, sheet_of, empty_sheet, fit_for}
use Rattle.pack.specs.Laws.{InRange, ChargeInRange}

-- a number or an infinity with a clear sign
abbrev NonNegative : Float → Type 0
NonNegative nan = ⊥
NonNegative (inf s) = s ≡ false
NonNegative (fin s m e) = s ≡ false

-- a finite number with a clear sign, at most the largest charge
abbrev Sound : Float → Type 0
Sound nan = ⊥
Sound (inf s) = ⊥
Sound (fin s m e) = (s ≡ false) × (m * up e ≤ charge_most * down e)

odd_clear : (d q k l : ℕ) → NonNegative (odd d false q k l)
unfolding odd
odd_clear d zero k l = refl
odd_clear d (suc q) k l = refl

units_clear : (f : Format) (q k : ℕ) → NonNegative (units f false q k)
unfolding units
units_clear f q k = go (ltb (q * 2 ^ k) (2 ^ (low f + suc (emax f))))
  where
    go : (b : Bool) → NonNegative (cond b (odd (suc (prec f)) false q k (low f)) (inf false))
    go true = odd_clear (suc (prec f)) q k (low f)
    go false = refl

round_clear : (f : Format) (a c : ℕ) → NonNegative (round f false a c)
round_clear f a c = subst NonNegative (sym (round_is f false a c)) (units_clear f _ _)

-- what the comparison of two magnitudes says
at_most : (a b : ℕ) → T (ltb a b || (eqb a b && true)) → a ≤ b
at_most a b t = grind (arith, nat_tests)

below_most : (x : Float) → NonNegative x → T (le x (whole charge_most)) → Sound x
unfolding of_int le
below_most nan c t = c
below_most (inf true) c t = absurd (true≢false c)
below_most (inf false) c t = absurd t
below_most (fin true m e) c t = absurd (true≢false c)
below_most (fin false m e) c t = (refl, let h = at_most (m * up e * 1) (1000000000 * down e) t in omega arith)

-- what is above 0 has a clear sign
above_zero : (x : Float) → T (lt (whole 0) x) → NonNegative x
unfolding of_int lt
above_zero nan t = t
above_zero (inf true) t = absurd t
above_zero (inf false) t = refl
above_zero (fin true m e) t = absurd t
above_zero (fin false m e) t = refl

-- a magnitude above 0 is not 0
not_zero : (a b : ℕ) → 0 < a → T (eqb a b && eqb a 0) → ⊥
not_zero a b h t = grind (arith, nat_tests)

-- at least the least current, at most the largest: a finite number with a clear sign
current_finite : (x : Float) → T (le (whole current_least) x) → T (le x (whole current_most)) → (m : ℕ) × (e : ℤ) × (x ≡ fin false m e)
unfolding of_int le
current_finite nan l t = absurd l
current_finite (inf true) l t = absurd l
current_finite (inf false) l t = absurd t
current_finite (fin true m e) l t = absurd (not_zero (10 * down e) (m * up e * 1) (let h = down_pos e in omega arith) l)
current_finite (fin false m e) l t = (m, e, refl)

-- ---- the difference
-- a fraction at most the largest charge rounds to a float at most the largest charge
round_sound : (a c : ℕ) → 0 < c → a ≤ charge_most * c → Sound (round binary64 false a c)
unfolding of_int
round_sound a c C h =
    below_most (round binary64 false a c) (round_clear binary64 a c)
    (round_mono binary64 a c charge_most 1 C (lit≤ tt) (let e : a * 1 ≡ a = mul-one a in omega arith))

zero_sound : Sound (whole 0)
unfolding of_int
zero_sound = (refl, lit≤ tt)

less : (q p : Float) → Sound q → NonNegative p → Sound (cond (lt q p) (whole 0) (sub binary64 q p))
unfolding lt sub
less nan p h c = absurd h
less (inf s) p h c = absurd h
less (fin true m e) p h c = absurd (true≢false h.0)
less (fin false m e) nan h c = absurd c
less (fin false m e) (inf true) h c = absurd (true≢false c)
less (fin false m e) (inf false) h c = zero_sound
less (fin false m e) (fin true n d) h c = absurd (true≢false c)
less (fin false m e) (fin false n d) h c =
    go (ltb (m * up e * down d) (n * up d * down e))
  where
    go : (b : Bool)
        → Sound (cond b (whole 0) (cond b (round binary64 true (n * up d * down e - m * up e * down d) (down e * down d)) (round binary64 false (m * up e * down d - n * up d * down e) (down e * down d))))
    go true = zero_sound
    go false =
        let k : m * up e * down d ≤ charge_most * (down e * down d) = le_trans (mul-le-mul_right (down d) h.1) (le_of_eq (mul_assoc charge_most (down e) (down d))) in
        round_sound (m * up e * down d - n * up d * down e) (down e * down d) (mul-pos (down_pos e) (down_pos d)) (omega arith)

-- ---- the product
product_clear : (x y : Float) → (m : ℕ) × (e : ℤ) × (x ≡ fin false m e) → NonNegative y → T (finite y) → NonNegative (mul binary64 x y)
unfolding mul
product_clear x nan (m, e, p) c t = absurd c
product_clear x (inf s) (m, e, p) c t = absurd t
product_clear x (fin true n d) (m, e, p) c t = absurd (true≢false c)
product_clear x (fin false n d) (m, e, p) c t = subst (λ z. NonNegative (mul binary64 z (fin false n d))) (sym p) (round_clear binary64 (m * up e * (n * up d)) (down e * down d))

value_finite : (x : Float) (n : ℕ) → HasValue x false n 1 → T (finite x)
value_finite nan n h = absurd h
value_finite (inf s) n h = absurd h
value_finite (fin s m e) n h = tt

seconds_finite : (n : ℕ) → n ≤ seconds_most → T (finite (whole n))
unfolding of_int
seconds_finite n h = value_finite (round binary64 false n 1) n (round_whole binary64 false n (le_trans h (lit≤ tt)))

seconds_clear : (n : ℕ) → NonNegative (whole n)
unfolding of_int
seconds_clear n = round_clear binary64 n 1

-- ---- the sheet
charge_sound : (q : Float) → T (fit_charge q) → Sound q
charge_sound q t = below_most q (above_zero q (and_l _ _ t)) (and_r _ _ t)

drained_sound : (q c : Float) (n : ℕ) → Sound q → T (fit_current c && fit_seconds n) → Sound (drained q c n)
drained_sound q c n h t =
    let current = and_l (fit_current c) (fit_seconds n) t in
    let few : n ≤ seconds_most = leb→le n seconds_most (and_r (leb seconds_least n) (leb n seconds_most) (and_r (fit_current c) (fit_seconds n) t)) in
    less q (mul binary64 c (whole n)) h
    (product_clear c (whole n) (current_finite c (and_l _ _ current) (and_r _ _ current)) (seconds_clear n) (seconds_finite n few))

worked_sound : (s : PackSheet) (l : PackLine) → Sound s.charge → T (fit_for s l) → Sound (worked s l).charge
worked_sound s (Begin q) h t = charge_sound q t
worked_sound s (Drain c n) h t = drained_sound s.charge c n h (and_r _ _ t)
worked_sound s (Idle n) h t = h

applied_sound : (s : PackSheet) (l : PackLine) → Sound s.charge → Sound (applied s l).charge
applied_sound s l h = go (fit_for s l) (worked_sound s l h)
  where
    go : (b : Bool) → (T b → Sound (worked s l).charge) → Sound (cond b (worked s l) (refused_line s)).charge
    go true k = k tt
    go false k = h

worked_on_sound : (s : PackSheet) (ls : List PackLine) → Sound s.charge → Sound (worked_on s ls).charge
worked_on_sound s [] h = h
worked_on_sound s (l ∷ ls) h = worked_on_sound (applied s l) ls (applied_sound s l h)

sound_in_range : (q : Float) → Sound q → InRange q
unfolding of_int
sound_in_range nan h = absurd h
sound_in_range (inf s) h = absurd h
sound_in_range (fin true m e) h = absurd (true≢false h.0)
sound_in_range (fin false m e) h = (
  le_of_values (whole 0) (fin false m e) 0 1 (m * up e) (down e) (lit≤ tt) (down_pos e) (round_whole binary64 false 0 (lit≤ tt)) (refl, refl) (omega arith),
  le_of_values (fin false m e) (whole charge_most) (m * up e) (down e) charge_most 1 (down_pos e) (lit≤ tt) (refl, refl) (round_whole binary64 false charge_most (lit≤ tt)) (omega (arith, h.1)),
)

pub charge_in_range : (s : PackSheet) → ChargeInRange s s.charge
charge_in_range s ls e = subst (λ t. InRange t.charge) (sym e) (sound_in_range (sheet_of ls).charge (worked_on_sound empty_sheet ls zero_sound))

-- A search by place over the numbers from 1 to n: where it found one, and that none before it passed.
use Rattle.std.proofs.Common.{◌≡◌, ℕ, ◌+◌, ◌<◌, ◌≤◌, ◌-◌, Bool, true, false, MatchBool, MatchOption, IfSome, IsSomeAnd, IsTrue, option_map, Some, None, Option, subst, subst₂, ap, ◌∙◌, arith}
use Rattle.std.specs.declared.ops.RangeInclusive.{RangeInclusive}
use Rattle.std.specs.Range.{range_inclusive_start, range_inclusive_end, range_inclusive_exhausted}
use Rattle.std.proofs.iter.runs.Sources.{Indexes}
use Rattle.std.specs.Iterator.{ActsAs}
use Rattle.std.specs.Iterator.Runs.{Run, ItemsCountUp, AllItemsGive, AnyItemGives, IsFirstToGive}
use denote.Param.Members.{Mut}

some_place : (o : Option ℕ) (P : ℕ → Type 0) (x : ℕ) → option_map (λ y. y) o ≡ Some x → IsSomeAnd o P → P x
some_place None P x e h = absurd h
some_place (Some y) P x e h = let same : y ≡ x = cc in subst P same h

if_place : (o : Option ℕ) (P : ℕ → Type 0) (x : ℕ) → option_map (λ y. y) o ≡ Some x → IfSome o P → P x
if_place None P x e h = let z : ◌≡◌ {A = ℕ} 0 1 = cc in absurd (omega arith)
if_place (Some y) P x e h = let same : y ≡ x = cc in subst P same h

-- the numbers of a range 1..=n that is not spent
pub counted : {steps : RangeInclusive ℕ → Option ℕ → RangeInclusive ℕ → Type 0} (p : Run steps) (s : RangeInclusive ℕ) (n : ℕ) → p.from ≡ s → range_inclusive_start s ≡ 1 → range_inclusive_end s ≡ n → range_inclusive_exhausted s ≡ false
    → ((a : ℕ) × (b : ℕ) × (a ≡ range_inclusive_start p.from) × (b ≡ range_inclusive_end p.from + 1) × (range_inclusive_exhausted p.from ≡ false → ItemsCountUp p a b × Indexes p a)) → ItemsCountUp p 1 (n + 1)
counted p s n same start end unspent listed =
    let last = ap (λ t. range_inclusive_end t + 1) same ∙ ap (λ e. e + 1) end in
    subst₂ (ItemsCountUp p) (listed.2 ∙ ap range_inclusive_start same ∙ start) (listed.3 ∙ last) (listed.4 (ap range_inclusive_exhausted same ∙ unspent)).0

module _ {S F : Type 0} {steps : S → Option ℕ → S → Type 0} (p : Run steps) (g : Mut F (ℕ × Unit {0}) Bool) (f : F) (test : ℕ → Bool) (n : ℕ) where
  -- what `position` found, by the test that its closure computes
  pub first_place : (r : Option ℕ) → MatchOption r (IsTrue p.whole × AllItemsGive p g f false) (λ i. (p.len ≡ i + 1) × IsFirstToGive p g f true false i) → ItemsCountUp p 1 (n + 1) → ActsAs g f test
      → MatchOption r ((k : ℕ) → k < n → false ≡ test (1 + k)) (λ i. (i < n) × (true ≡ test (1 + i)) × ((k : ℕ) → k < i → false ≡ test (1 + k)))
  first_place None h up acts = λ k l.
      let long : p.len ≡ n = omega (arith, up.1 h.0) in
      (acts (1 + k) false f (if_place (p.at k) _ (1 + k) (up.3 k (omega arith)) (h.1 (λ a r t c. (acts a.0 r t c).0) k))).1
  first_place (Some i) h up acts =
      let found = h.1 (λ a r t c. (acts a.0 r t c).0) in
      let long : p.len ≡ i + 1 = h.0 in
      let most : p.len ≤ n + 1 - 1 = up.0 in (
        omega arith,
        (acts (1 + i) true f (some_place (p.at i) _ (1 + i) (up.3 i (omega arith)) found.0)).1,
        λ k l. (acts (1 + k) false f (some_place (p.at k) _ (1 + k) (up.3 k (omega arith)) (found.1 k l))).1,
      )

  -- what `all` found: the test holds of all, or it fails at one
  pub all_pass : (r : Bool) → MatchBool r (IsTrue p.whole × AllItemsGive p g f true) (AnyItemGives p g f false) → r ≡ true → ItemsCountUp p 1 (n + 1) → ActsAs g f test → (k : ℕ) → k < n → true ≡ test (1 + k)
  all_pass false h e up acts = absurd (grind arith)
  all_pass true h e up acts = λ k l.
      let long : p.len ≡ n = omega (arith, up.1 h.0) in
      (acts (1 + k) true f (if_place (p.at k) _ (1 + k) (up.3 k (omega arith)) (h.1 (λ a r t c. (acts a.0 r t c).0) k))).1

  pub one_fails : (r : Bool) → MatchBool r (IsTrue p.whole × AllItemsGive p g f true) (AnyItemGives p g f false) → r ≡ false → ItemsCountUp p 1 (n + 1) → ActsAs g f test → (k : ℕ) × (k < n) × (false ≡ test (1 + k))
  one_fails true h e up acts = absurd (grind arith)
  one_fails false h e up acts =
      let found = h (λ a r t c. (acts a.0 r t c).0) in
      let within : found.0 < p.len = found.1 in
      let most : p.len ≤ n + 1 - 1 = up.0 in
      (found.0, omega arith, (acts (1 + found.0) false f (some_place (p.at found.0) _ (1 + found.0) (up.3 found.0 within) found.2)).1)

-- Counting and reporting one cell more, and how many Reports there are.
use Rattle.std.proofs.Common.{◌≡◌, ℕ, zero, suc, ◌+◌, ◌-◌, ◌*◌, ◌<◌, ◌≤◌, List, [], ◌∷◌, ◌++◌, length, get_or, Some, None, Option, sym, refl, ap, ◌∙◌, add-zero, add-suc, add-one, arith}
use Rattle.protocol.specs.declared.message.Message.TheVariants.{Report}
use Rattle.std.proofs.lemmas.List.{get_or_read, append-nil, length-append}
use Rattle.protocol.specs.declared.message.Message.{Message}
use Rattle.protocol.specs.Store.{lines_in, reports, report_of, held}

pub lines_none : {L : Type 0} (w : ℕ) (cells : List (Option L)) → lines_in w 0 cells ≡ 0
unfolding lines_in
lines_none w cells = refl

-- one cell more, as the code read it
pub lines_more : {L : Type 0} (w n : ℕ) (cells : List (Option L)) (x : Option L) → 64 * w + n < length cells → x ≡ get_or cells (64 * w + n) x → lines_in w (n + 1) cells ≡ lines_in w n cells + held x
unfolding lines_in
lines_more w n cells x h e =
    ap (λ k. lines_in w k cells) (add-one n) ∙ ap (λ o. lines_in w n cells + held o) (sym (get_or_read cells (64 * w + n) x h e None))

-- more cells have no fewer lines
lines_grow : {L : Type 0} (w n d : ℕ) (cells : List (Option L)) → lines_in w n cells ≤ lines_in w (n + d) cells
unfolding lines_in
lines_grow w n zero cells = rw (add-zero) (omega arith)
lines_grow w n (suc d) cells = rw (add-suc) (omega (arith, lines_grow w n d cells))

pub lines_mono : {L : Type 0} (w m n : ℕ) (cells : List (Option L)) → m ≤ n → lines_in w m cells ≤ lines_in w n cells
lines_mono w m n cells h =
    let e : m + (n - m) ≡ n = omega arith in
    rw e at (lines_grow w m (n - m) cells)

pub reports-none : {L : Type 0} (w to e c : ℕ) (cells : List (Option L)) → reports w to e c 0 cells ≡ []
unfolding reports
reports-none w to e c cells = refl

pub reports_more : {L : Type 0} (w to e c n : ℕ) (cells : List (Option L)) (x : Option L) → 64 * w + n < length cells → x ≡ get_or cells (64 * w + n) x → reports w to e c (n + 1) cells ≡ reports w to e c n cells ++ report_of w to e c (n + 1) x
unfolding reports
reports_more w to e c n cells x h r =
    ap (λ k. reports w to e c k cells) (add-one n) ∙ ap (λ o. reports w to e c n cells ++ report_of w to e c (n + 1) o) (sym (get_or_read cells (64 * w + n) x h r None))

pub lines_some : {L : Type 0} (w n : ℕ) (cells : List (Option L)) (x : Option L) (v : L) → 64 * w + n < length cells → x ≡ get_or cells (64 * w + n) x → x ≡ Some v → lines_in w (n + 1) cells ≡ lines_in w n cells + 1
lines_some w n cells x v h e s = lines_more w n cells x h e ∙ ap (λ o. lines_in w n cells + held o) s

pub lines-empty : {L : Type 0} (w n : ℕ) (cells : List (Option L)) (x : Option L) → 64 * w + n < length cells → x ≡ get_or cells (64 * w + n) x → x ≡ None → lines_in w (n + 1) cells ≡ lines_in w n cells
lines-empty w n cells x h e s = lines_more w n cells x h e ∙ ap (λ o. lines_in w n cells + held o) s ∙ add-zero (lines_in w n cells)

pub reports_some : {L : Type 0} (w to e c n : ℕ) (cells : List (Option L)) (x : Option L) (v : L) → 64 * w + n < length cells → x ≡ get_or cells (64 * w + n) x → x ≡ Some v → reports w to e c (n + 1) cells ≡ reports w to e c n cells ++ Report w to e c (n + 1) v ∷ []
reports_some w to e c n cells x v h r s = reports_more w to e c n cells x h r ∙ ap (λ o. reports w to e c n cells ++ report_of w to e c (n + 1) o) s

pub reports-empty : {L : Type 0} (w to e c n : ℕ) (cells : List (Option L)) (x : Option L) → 64 * w + n < length cells → x ≡ get_or cells (64 * w + n) x → x ≡ None → reports w to e c (n + 1) cells ≡ reports w to e c n cells
reports-empty w to e c n cells x h r s = reports_more w to e c n cells x h r ∙ ap (λ o. reports w to e c n cells ++ report_of w to e c (n + 1) o) s ∙ append-nil (reports w to e c n cells)

report_one : {L : Type 0} (w to e c k : ℕ) (o : Option L) → length (report_of w to e c k o) ≡ held o
report_one w to e c k None = refl
report_one w to e c k (Some l) = refl

-- as many reports as lines
reports-length : {L : Type 0} (w to e c n : ℕ) (cells : List (Option L)) → length (reports w to e c n cells) ≡ lines_in w n cells
unfolding reports lines_in
reports-length w to e c zero cells = refl
reports-length w to e c (suc n) cells =
    let a = length-append (reports w to e c n cells) (report_of w to e c (n + 1) (get_or cells (64 * w + n) None)) in
    let b = reports-length w to e c n cells in
    let d = report_one w to e c (n + 1) (get_or cells (64 * w + n) None) in
    omega arith

pub sent_length : {L : Type 0} (w to e c n : ℕ) (cells : List (Option L)) (old all : List (Message L)) → all ≡ old ++ reports w to e c n cells → length all ≡ length old + lines_in w n cells
sent_length w to e c n cells old all h = ap length h ∙ length-append old (reports w to e c n cells) ∙ ap (λ q. length old + q) (reports-length w to e c n cells)

-- cells that add no line to the count add no report
reports_grow : {L : Type 0} (w to e c n d : ℕ) (cells : List (Option L)) → lines_in w (n + d) cells ≡ lines_in w n cells → reports w to e c (n + d) cells ≡ reports w to e c n cells
unfolding lines_in reports
reports_grow w to e c n zero cells h = ap (λ k. reports w to e c k cells) (add-zero n)
reports_grow w to e c n (suc d) cells h =
    let s : n + suc d ≡ suc (n + d) = add-suc n d in
    let more = sym (ap (λ k. lines_in w k cells) s) ∙ h in
    let grow = lines_grow w n d cells in
    let none : held (get_or cells (64 * w + (n + d)) None) ≡ 0 = omega arith in
    let same : lines_in w (n + d) cells ≡ lines_in w n cells = omega arith in
    ap (λ k. reports w to e c k cells) s ∙ ap (λ q. reports w to e c (n + d) cells ++ q) (no_report w to e c (n + d + 1) (get_or cells (64 * w + (n + d)) None) none) ∙ append-nil (reports w to e c (n + d) cells) ∙ reports_grow w to e c n d cells same
  where
    no_report : {L : Type 0} (w to e c k : ℕ) (o : Option L) → held o ≡ 0 → report_of w to e c k o ≡ []
    no_report w to e c k None h = refl
    no_report w to e c k (Some l) h = absurd (omega arith)

pub reports_same : {L : Type 0} (w to e c m n : ℕ) (cells : List (Option L)) → m ≤ n → lines_in w n cells ≡ lines_in w m cells → reports w to e c m cells ≡ reports w to e c n cells
reports_same w to e c m n cells h s =
    let e' : m + (n - m) ≡ n = omega arith in
    sym (reports_grow w to e c m (n - m) cells (ap (λ k. lines_in w k cells) e' ∙ s)) ∙ ap (λ k. reports w to e c k cells) e'

pub lines-few : {L : Type 0} (w n : ℕ) (cells : List (Option L)) → lines_in w n cells ≤ n
unfolding lines_in
lines-few w zero cells = omega arith
lines-few w (suc n) cells = let a = lines-few w n cells in let b = few (get_or cells (64 * w + n) None) in omega arith
  where
    few : {L : Type 0} (o : Option L) → held o ≤ 1
    few None = omega arith
    few (Some l) = omega arith

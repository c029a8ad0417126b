-- The fields of a line that are left from an index: the run up to the next space, and those after it.
use Rattle.std.proofs.Common.{◌≡◌, ℕ, ◌+◌, ◌-◌, ◌<◌, ◌≤◌, Bool, eqb, leb, Bor, List, [], ◌∷◌, length, take, drop, Some, None, Option, Ok, Err, Result, IfOk, sym, refl, ap, ◌∙◌, subst, inl, inr, arith, length-drop, length-take}
use Rattle.std.specs.List.{slice_split, position_or_len}
use Rattle.std.specs.Option.{ok_or}
use Rattle.std.specs.Slice.{IsGetRangeResult}
use Rattle.std.proofs.lemmas.Bool.{cond-true, cond-false, le-leb, lt-leb, cases_lt}
use Rattle.std.proofs.lemmas.List.{drop-drop, take_rest}
use Rattle.std.proofs.lemmas.List.Splits.{slice_split_first, join_with_byte-slice_split}
use Rattle.text.specs.declared.fields.BadField.{BadField}
use Rattle.text.specs.Reading.{Parted, Unread, space, bad_at, unread_at, first_field, read_by, past_field, end_of}
use Rattle.text.proofs.Parts.{split_last, some_part, parts_lack}

abbrev is_space : ℕ → Bool
is_space b = eqb b space

fields_within : (bs : List ℕ) (i : ℕ) → i ≤ length bs → (unread_at bs i).fields ≡ slice_split is_space (drop i bs)
fields_within bs i h = cond-true (leb i (length bs)) (slice_split is_space (drop i bs)) [] (le-leb i (length bs) h)

fields_past : (bs : List ℕ) (i : ℕ) → length bs < i → (unread_at bs i).fields ≡ []
fields_past bs i h = cond-false (leb i (length bs)) (slice_split is_space (drop i bs)) [] (lt-leb i (length bs) h)

-- What is left from the index i, whose field has n bytes: that field, and what is left after it.
next_field : (bs : List ℕ) (i n : ℕ) → i ≤ length bs → n ≡ position_or_len is_space (drop i bs)
    → (unread_at bs i).fields ≡ take n (drop i bs) ∷ (unread_at bs (i + (n + 1))).fields
next_field bs i n h x =
    let d = drop i bs in
    let k : length d ≡ length bs - i = length-drop i bs in
    fields_within bs i h
    ∙ elim (cases_lt (position_or_len is_space d) (length d)) [
      | inl l ↦
          slice_split_first is_space d 0 l
          ∙ ap (λ m. take m d ∷ slice_split is_space (drop (m + 1) d)) (sym x)
          ∙ ap (λ z. take n d ∷ slice_split is_space z) (drop-drop (n + 1) i bs)
          ∙ ap (λ z. take n d ∷ z) (sym (fields_within bs (i + (n + 1)) (omega arith)))
      | inr l ↦
          split_last is_space d l
          ∙ ap (λ m. take m d ∷ []) (sym x)
          ∙ ap (λ z. take n d ∷ z) (sym (fields_past bs (i + (n + 1)) (omega arith)))
    ]

pub next_first : (bs : List ℕ) (i n : ℕ) → i ≤ length bs → n ≡ position_or_len is_space (drop i bs) → Ok (take n (drop i bs)) ≡ first_field (unread_at bs i)
next_first bs i n h x = sym (ap (λ z. first_field (record { place = i + 1; fields = z })) (next_field bs i n h x))

next_place : (bs : List ℕ) (i n : ℕ) → n ≤ length (drop i bs) → i + (n + 1) + 1 ≡ i + 1 + length (take n (drop i bs)) + 1
next_place bs i n h = simp length-take (omega arith)

pub next_unread : (bs : List ℕ) (i n : ℕ) → i ≤ length bs → n ≡ position_or_len is_space (drop i bs) → n ≤ length (drop i bs)
    → unread_at bs (i + (n + 1)) ≡ past_field (unread_at bs i)
next_unread bs i n h x y =
    ap (λ z. record { place = z; fields = (unread_at bs (i + (n + 1))).fields }) (next_place bs i n y)
    ∙ sym (ap (λ z. past_field (record { place = i + 1; fields = z })) (next_field bs i n h x))

pub line_parted : (bs : List ℕ) → Parted bs (unread_at bs 0).fields
line_parted bs =
    subst (Parted bs) (sym (fields_within bs 0 (omega arith)))
    (record { joined = join_with_byte-slice_split space bs; spaceless = parts_lack space bs })

one_more : (n : ℕ) (fs : List (List ℕ)) → 0 < length fs → Err (bad_at n) ≡ end_of (record { place = n; fields = fs })
one_more n [] h = absurd (omega arith)
one_more n (f ∷ fs) h = refl

pub one_left : (bs : List ℕ) (i : ℕ) → i ≤ length bs → Err (bad_at (i + 1)) ≡ end_of (unread_at bs i)
one_left bs i h = one_more (i + 1) (unread_at bs i).fields (subst (λ fs. 0 < length fs) (sym (fields_within bs i h)) (some_part is_space (drop i bs)))

-- a field that is there, read by p: o is the parser's answer, and r what is made of it
pub read_first : {A : Type 0} (p : List ℕ → Option A) (u : Unread) (f : List ℕ) (o : Option A) (n : ℕ) (r : Result A BadField) → r ≡ ok_or o (bad_at n) → Ok f ≡ first_field u → o ≡ p f
    → n ≡ u.place → r ≡ read_by p u
read_first p u f o n r w e h k = w ∙ ap (λ a. ok_or a (bad_at n)) h ∙ ap (λ m. ok_or (p f) (bad_at m)) k ∙ go u.fields e
  where
    go : (fs : List (List ℕ)) → Ok f ≡ first_field (record { place = u.place; fields = fs })
        → ok_or (p f) (bad_at u.place) ≡ read_by p (record { place = u.place; fields = fs })
    go [] h = cc
    go (x ∷ xs) h = cc

-- what is known of a parser's answer is known of the value that it gave
pub if_given : {A E : Type 0} (P : Option A → Type 0) (o : Option A) (r : Result A E) (e : E) → r ≡ ok_or o e → P o → IfOk r (λ v. P (Some v))
if_given P None r e h p = rw h tt
if_given P (Some v) r e h p = rw h p

-- what `get(i..)` gave, where `ok_or` let it through
pub record Rest (bs : List ℕ) (i : ℕ) (rest : List ℕ) : Type 0 where
  pub within : i ≤ length bs
  pub is : rest ≡ drop i bs
  pub size : length rest + i ≡ length bs

pub got_rest : {E : Type 0} {bs : List ℕ} {i : ℕ} (r : Option (Bor (List ℕ))) (x : Bor (List ℕ)) (e : E) → IsGetRangeResult bs i (length bs) r → Ok x ≡ ok_or r e → Rest bs i x.now
got_rest None x e h k = absurd cc
got_rest {bs = bs} {i = i} (Some y) x e h k =
    let same : x ≡ y = cc in
    rw same (record { within = h.0.0; is = h.0.2 ∙ take_rest bs i; size = h.0.3 })

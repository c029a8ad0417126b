-- What is left to read of a line, and what reading a field answers and leaves. Assumes nothing.
--
-- line_most         the most bytes of a line
-- space             the byte between two fields
-- Unread            the place of the next field, counted from 1, and the fields that are left
-- unread_at bs i    what is left of the line bs, where the next field begins at the index i
-- FromLine u        u is what is left of some line in memory, where the next field begins at an index within it or just past its end
-- bad_at n          the refusal of the field at the place n
-- length_check bs   the refusal of a line of more than line_most bytes
-- contents r        what a field that was read holds
-- first_field u     the next field, or its refusal where none is left
-- read_by p u       the next field read by p
-- past_field u      what is left after the next field, good or bad; where none is left, nothing moves
-- Taken A           an answer, and what is left to read after it
-- take_by p u       the next field read by p
-- and_then t k      t, and then, unless t is refused, k on what is left
-- done r u          the answer r, with no more fields taken
-- unless r s        the answer s, unless the check r refuses
-- ended t           what t answers, unless a field is left after it
-- whole_line p bs   what p takes from the line bs, which is not too long and has no field after it
-- Takes p u r u'    the answer r, and what is left after it, u', are those of p from u
-- Computes g f p    the function f, called at any field, answers what p does
-- Reads g f p       the function f, called at a line's fields, takes what p does
-- letter_in f       the field as its one byte
-- number32_in f     the field as a number that fits 32 bits
-- end_of u          the refusal of a field that is too many
-- Parted bs fs      fs are the fields of the line bs: with single spaces between them they are the line again, and none has a space
use Rattle.std.specs.Prelude.{◌≡◌, ℕ, ◌+◌, ◌^◌, ◌<◌, ◌≤◌, cond, List, [], ◌∷◌, length, drop, Some, None, Ok, Err, Option, Result, ◌==◌, nat_le}
use Rattle.std.specs.Borrow.{Bor, MutBor}
use Rattle.std.specs.Fn.{Once, FnOnceReturnsAt, FnOnceReturnsAtMut}
use Rattle.std.specs.List.{AllByRecursion, join_with_byte, slice_split}
use Rattle.std.specs.Option.{ok_or}
use Rattle.text.specs.declared.fields.BadField.{BadField}
use Rattle.text.specs.Texts.{Lacks, number_of}

abbrev pub line_most : ℕ
line_most = 80

abbrev pub space : ℕ
space = 32

pub record Unread : Type 0 where
  pub place : ℕ
  pub fields : List (List ℕ)

abbrev pub unread_at : List ℕ → ℕ → Unread
unread_at bs i = record { place = i + 1; fields = cond (nat_le i (length bs)) (slice_split (λ b. b == space) (drop i bs)) [] }

pub record FromLine (u : Unread) : Type 0 where
  pub line : List ℕ
  pub next : ℕ
  pub size : length line < 2 ^ 63
  pub within : next ≤ length line + 1
  pub left : u ≡ unread_at line next

abbrev pub bad_at : ℕ → BadField
bad_at n = record { place = n }

abbrev pub length_check : List ℕ → Result Unit BadField
length_check bs = cond (nat_le (length bs) line_most) (Ok tt) (Err (bad_at (line_most + 1)))

abbrev pub contents : Result (Bor (List ℕ)) BadField → Result (List ℕ) BadField
contents (Ok f) = Ok f.now
contents (Err e) = Err e

abbrev pub first_field : Unread → Result (List ℕ) BadField
first_field u = elim u.fields [ [] ↦ Err (bad_at u.place) | f ∷ fs ↦ Ok f ]

abbrev pub read_by : {A : Type 0} → (List ℕ → Option A) → Unread → Result A BadField
read_by p u = elim u.fields [ [] ↦ Err (bad_at u.place) | f ∷ fs ↦ ok_or (p f) (bad_at u.place) ]

abbrev pub past_field : Unread → Unread
past_field u = elim u.fields [ [] ↦ u | f ∷ fs ↦ record { place = u.place + length f + 1; fields = fs } ]

pub record Taken (A : Type 0) : Type 0 where
  pub answer : Result A BadField
  pub left : Unread

abbrev pub take_by : {A : Type 0} → (List ℕ → Option A) → Unread → Taken A
take_by p u = record { answer = read_by p u; left = past_field u }

abbrev pub and_then : {A B : Type 0} → Taken A → (A → Unread → Taken B) → Taken B
and_then t k = elim t.answer [ Err e ↦ record { answer = Err e; left = t.left } | Ok v ↦ k v t.left ]

abbrev pub letter_in : List ℕ → Option ℕ
letter_in [] = None
letter_in (b ∷ []) = Some b
letter_in (b ∷ (c ∷ bs)) = None

abbrev pub number32_in : List ℕ → Option ℕ
number32_in f = elim (number_of f) [ None ↦ None | Some n ↦ cond (nat_le n 4294967295) (Some n) None ]

abbrev pub end_of : Unread → Result Unit BadField
end_of u = elim u.fields [ [] ↦ Ok tt | f ∷ fs ↦ Err (bad_at u.place) ]

abbrev pub done : {A : Type 0} → Result A BadField → Unread → Taken A
done r u = record { answer = r; left = u }

abbrev pub unless : {A : Type 0} → Result Unit BadField → Result A BadField → Result A BadField
unless (Ok _) r = r
unless (Err e) r = Err e

abbrev pub ended : {A : Type 0} → Taken A → Result A BadField
ended t = elim t.answer [ Err e ↦ Err e | Ok v ↦ unless (end_of t.left) (Ok v) ]

abbrev pub whole_line : {A : Type 0} → (Unread → Taken A) → List ℕ → Result A BadField
whole_line p bs = unless (length_check bs) (ended (p (unread_at bs 0)))

pub record Takes {A : Type 0} (p : Unread → Taken A) (u : Unread) (r : Result A BadField) (u' : Unread) : Type 0 where
  pub answer : r ≡ (p u).answer
  pub left : u' ≡ (p u).left

abbrev pub Computes : {F A : Type 0} → Once F (Bor (List ℕ) × Unit {0}) (Option A) → F → (List ℕ → Option A) → Type 0
Computes {A = A} g f p = (bs : List ℕ) (o : Option A) → FnOnceReturnsAt g f bs o → o ≡ p bs

abbrev pub Reads : {F A : Type 0} → Once F (MutBor Unread × Unit {0}) (Result A BadField × (MutBor Unread × Unit {0})) → F → (Unread → Taken A) → Type 0
Reads {A = A} g f p = (u u' : Unread) (r : Result A BadField) → FnOnceReturnsAtMut g f u r u' → Takes p u r u'

pub record Parted (bs : List ℕ) (fs : List (List ℕ)) : Type 0 where
  pub joined : join_with_byte space fs ≡ bs
  pub spaceless : AllByRecursion (Lacks space) fs

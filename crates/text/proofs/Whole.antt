-- A line that is not too long answers what its reader takes, unless a field is left.
use Rattle.std.proofs.Common.{◌≡◌, ℕ, List, Ok, Err, Result, MutBor, sym, ap, ◌∙◌, subst}
use Rattle.std.specs.Fn.{Once}
use Rattle.text.specs.declared.fields.BadField.{BadField}
use Rattle.text.specs.Reading.{Unread, Taken, Takes, Reads, length_check, unread_at, unless, ended, end_of, whole_line}

module _ {A : Type 0} (p : Unread → Taken A) (bs : List ℕ) (r : Result A BadField) (u : Unread) (e : Ok tt ≡ length_check bs) (t : Takes p (unread_at bs 0) r u) where
  taken : ended (record { answer = r; left = u }) ≡ whole_line p bs
  taken =
      let now = p (unread_at bs 0) in
      ap (λ a. ended (record { answer = a; left = u })) t.answer
      ∙ ap (λ v. ended (record { answer = now.answer; left = v })) t.left
      ∙ ap (λ z. unless z (ended now)) e

  pub refused : (b : BadField) → r ≡ Err b → Err b ≡ whole_line p bs
  refused b h = sym (ap (λ a. ended (record { answer = a; left = u })) h) ∙ taken

  pub at_end : (v : A) (s : Result Unit BadField) → r ≡ Ok v → s ≡ end_of u → unless s (Ok v) ≡ whole_line p bs
  at_end v s h k = ap (λ z. unless z (Ok v)) k ∙ sym (ap (λ a. ended (record { answer = a; left = u })) h) ∙ taken

-- a function whose calls take what p does
pub reads_by : {F A : Type 0} {g : Once F (MutBor Unread × Unit {0}) (Result A BadField × (MutBor Unread × Unit {0}))} {f : F} (p : Unread → Taken A)
    → ((x y : MutBor Unread) (r : Result A BadField) → g.post f (x, tt) (r, (y, tt)) → Takes p x.now r y.now) → Reads g f p
reads_by p each u u' r h =
    subst (λ v. Takes p v r u') h.shows (subst (λ v. Takes p h.shown.now r v) h.leaves (each h.shown h.left r h.met))

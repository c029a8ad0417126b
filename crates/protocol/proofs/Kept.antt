-- The promises are kept: each is that of the model, carried over to the store that a run leads to.
use Rattle.std.proofs.Common.{◌≡◌, ℕ, zero, suc, List, [], ◌∷◌, ◌++◌, Some, None, Ok, Err, Option, Result, sym, refl, ap, ◌∙◌, ap₂, arith}
use Rattle.protocol.specs.declared.fault.Refusal.{Refusal}
use Rattle.protocol.specs.declared.fault.StepFault.{StepFault}
use Rattle.protocol.specs.declared.step.Answer.{Answer}
use Rattle.protocol.specs.Faults.{told_of}
use Rattle.protocol.specs.Store.{Store, settled, step_result, step_done}
use Rattle.protocol.specs.Runs.{holds, joined, book_to, Agreement, Origin, Permanence, EqualSheets, SomeSeat, Progress, RefusalKeeps}
use Rattle.protocol.proofs.View.{view, bares_length}
use Rattle.protocol.proofs.Tools.{none_not_some, some_same}
use Rattle.protocol.proofs.Safe as safe
use Rattle.protocol.proofs.Going as going
use Rattle.protocol.proofs.Promise.{seen, holds_is, stays, way_view}

pub agreement : (L : Type 0) → Agreement L
agreement L g h r w u k l m p q =
    let z = seen r in
    (safe.agreement L (view g) h.proposed h.accepted z.run).same w u k l m (sym (holds_is g z.fit w k) ∙ p) (sym (holds_is g z.fit u k) ∙ q)

pub origin : (L : Type 0) → Origin L
origin L g h r w k l p = let z = seen r in (safe.agreement L (view g) h.proposed h.accepted z.run).proposed w k l (sym (holds_is g z.fit w k) ∙ p)

pub permanence : (L : Type 0) → Permanence L
permanence L g h r es = stays es r

-- a book of one line more: the book before, and the line
joined_parts : {L : Type 0} (o : Option (List L)) (p : Option L) (ls : List L) → joined o p ≡ Some ls → (before : List L) × (a : L) × (o ≡ Some before) × (p ≡ Some a) × (before ++ (a ∷ []) ≡ ls)
joined_parts None p ls e = absurd (none_not_some refl e)
joined_parts (Some before) None ls e = absurd (none_not_some refl e)
joined_parts (Some before) (Some a) ls e = (before, a, refl, refl, some_same refl e)

same_books : {L : Type 0} (g : Store L) (w u : ℕ) → ((k : ℕ) (l m : L) → holds g w k ≡ Some l → holds g u k ≡ Some m → l ≡ m)
    → (j : ℕ) (ls ms : List L) → book_to g w j ≡ Some ls → book_to g u j ≡ Some ms → ls ≡ ms
same_books g w u agree zero ls ms p q = sym (some_same refl p) ∙ some_same refl q
same_books g w u agree (suc j) ls ms p q =
    let a = joined_parts (book_to g w j) (holds g w (suc j)) ls p in
    let b = joined_parts (book_to g u j) (holds g u (suc j)) ms q in
    sym a.4 ∙ ap₂ (λ bs x. bs ++ (x ∷ [])) (same_books g w u agree j a.0 b.0 a.2 b.2) (agree (suc j) a.1 b.1 a.3 b.3) ∙ b.4

pub equal_sheets : (L X : Type 0) → EqualSheets L X
equal_sheets L X g h r sheet w u j ls ms p q = ap sheet (same_books g w u (agreement L g h r w u) j ls ms p q)

pub some_seat : (L : Type 0) → SomeSeat L
some_seat L g h r = going.some_seat L (view g) h.proposed h.accepted (seen r).run

pub progress : (L : Type 0) → Progress L
progress L g h r rd app some free e x new w k l wn apart lo hi room =
    let z = seen r in
    way_view g z.fit w k l _ (going.progress L (view g) h.proposed h.accepted z.run rd some free e x new w k l wn apart lo hi (let n = bares_length g.messages in omega arith))

told_settled : {X : Type 0} (w : ℕ) (r : Result Answer StepFault) (f : Refusal StepFault) (new old : X) → told_of w r ≡ Err f → settled r new old ≡ old
told_settled w (Ok a) f new old e = let z : ◌≡◌ {A = ℕ} 0 1 = cc in absurd (omega arith)
told_settled w (Err g) f new old e = refl

pub refusal_keeps : (L : Type 0) → RefusalKeeps L
refusal_keeps L g s f e = told_settled _ (step_result s g) f (step_done s g) g e

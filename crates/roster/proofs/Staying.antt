-- Entries stay at their places under any calls, by induction on the calls: one call adds at most one entry, at the end.
use Rattle.std.proofs.Common.{◌≡◌, ℕ, zero, suc, ◌+◌, ◌-◌, ◌<◌, true, List, [], ◌∷◌, ◌++◌, length, Ok, Err, Result, sym, refl, ap, ◌∙◌, arith}
use Rattle.std.proofs.lemmas.List.{append-nil, append_assoc, length_push}
use Rattle.std.proofs.lemmas.Bool.Decides.{nat_tests}
use Rattle.roster.specs.declared.runs.Call.{Call}
use Rattle.roster.specs.declared.runs.Call.TheVariants.{Append, Read}
use Rattle.roster.specs.declared.fault.RosterFault.{RosterFault}
use Rattle.roster.specs.Answers.{append_answer, appended_to, entry_answer, read_answer}
use Rattle.roster.specs.Model.{RosterModel, Bounded, readable}
use Rattle.roster.specs.Runs.{after_call, after_calls, Grown, EntriesStay}

module _ {E : Type 0} where
  same_grown : (m : RosterModel E) → Bounded m → Grown m m
  same_grown m b = record { begins = ([], sym (append-nil m.entries)); capacity = refl; state = refl; bounded = b }

  append-grown : (m : RosterModel E) (p : ℕ) (e : E) (r : Result Unit RosterFault) → append_answer m p ≡ r → Bounded m → Grown m (appended_to r m e)
  append-grown m p e (Ok _) q b =
      let room : length m.entries < m.capacity = grind (arith, nat_tests) in
      let more : length (m.entries ++ e ∷ []) ≡ length m.entries + 1 = length_push m.entries e in
      record { begins = (e ∷ [], refl); capacity = refl; state = refl; bounded = record { fits = omega arith; small = b.small } }
  append-grown m p e (Err _) q b = same_grown m b

  call_grown : (m : RosterModel E) (c : Call E) → Bounded m → Grown m (after_call c m)
  call_grown m (Append p e) b = append-grown m p e (append_answer m p) refl b
  call_grown m (Read p) b = same_grown m b

  grown_on : (m n o : RosterModel E) → Grown m n → Grown n o → Grown m o
  grown_on m n o g h =
      record {
        begins = (g.begins.0 ++ h.begins.0, h.begins.1 ∙ ap (λ es. es ++ h.begins.0) g.begins.1 ∙ append_assoc m.entries g.begins.0 h.begins.0);
        capacity = h.capacity ∙ g.capacity;
        state = h.state ∙ g.state;
        bounded = h.bounded;
      }

  -- the list only grows, within its capacity
  pub calls_grown : (m : RosterModel E) (cs : List (Call E)) → Bounded m → Grown m (after_calls cs m)
  calls_grown m [] b = same_grown m b
  calls_grown m (c ∷ cs) b =
      let g = call_grown m c b in grown_on m (after_call c m) (after_calls (c ∷ cs) m) g (calls_grown (after_call c m) cs g.bounded)

  -- an entry of a list is an entry of each list that begins with it
  entry_stays : (es more : List E) (i : ℕ) (e : E) → entry_answer es i ≡ Ok e → entry_answer (es ++ more) i ≡ Ok e
  entry_stays [] more i e h = cc
  entry_stays (x ∷ es) more zero e h = h
  entry_stays (x ∷ es) more (suc i) e h = entry_stays es more i e h

  append-stays : (m : RosterModel E) (x : E) (r : Result Unit RosterFault) (p : ℕ) (e : E) → read_answer m p ≡ Ok e → read_answer (appended_to r m x) p ≡ Ok e
  append-stays m x (Ok _) p e h = grind (arith, nat_tests, entry_stays)
  append-stays m x (Err _) p e h = h

  call_stays : (m : RosterModel E) (c : Call E) (p : ℕ) (e : E) → read_answer m p ≡ Ok e → read_answer (after_call c m) p ≡ Ok e
  call_stays m (Append q x) p e h = append-stays m x (append_answer m q) p e h
  call_stays m (Read q) p e h = h

  pub calls_stay : (m : RosterModel E) (cs : List (Call E)) (p : ℕ) (e : E) → read_answer m p ≡ Ok e → read_answer (after_calls cs m) p ≡ Ok e
  calls_stay m [] p e h = h
  calls_stay m (c ∷ cs) p e h = calls_stay (after_call c m) cs p e (call_stays m c p e h)

  -- the entry after a list is read where the list ends
  entry_push : (es : List E) (i : ℕ) (e : E) → i ≡ length es → entry_answer (es ++ e ∷ []) i ≡ Ok e
  entry_push [] zero e h = refl
  entry_push [] (suc i) e h = absurd (omega arith)
  entry_push (x ∷ es) zero e h = absurd (omega arith)
  entry_push (x ∷ es) (suc i) e h = entry_push es i e (omega arith)

  -- just after it was appended, an entry is read at its place
  pub read_back : (m : RosterModel E) (p : ℕ) (e : E) → readable m ≡ true → append_answer m p ≡ Ok tt → read_answer (after_call (Append p e) m) p ≡ Ok e
  read_back m p e o h =
      let place : p ≡ length m.entries + 1 = grind (arith, nat_tests) in
      let more : entry_answer (m.entries ++ e ∷ []) (p - 1) ≡ Ok e = entry_push m.entries (p - 1) e (omega arith) in
      grind (arith, nat_tests)

pub entries_stay : (E : Type 0) → EntriesStay E
entries_stay E =
    record {
      grown = calls_grown;
      stays = calls_stay;
      back = λ m cs p e o h. calls_stay (after_call (Append p e) m) cs p e (read_back m p e o h);
    }

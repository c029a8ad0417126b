-- From what a step did to each part of the store to the whole store, and to the longer run with its promises.
use Rattle.std.proofs.Common.{◌≡◌, List, [], ◌∷◌, sym, subst}
use Rattle.protocol.specs.declared.step.Step.{Step}
use Rattle.protocol.specs.Store.{Store, Same, step_after}
use Rattle.protocol.specs.Runs.{History, Run, grown, plays}
use Rattle.protocol.specs.Promises.{SameBooks, Promised, GoesOn, PlaysOn, recorded}
use Rattle.protocol.specs.Runs.Run.{next}
use Rattle.protocol.proofs.Kept.{agreement, origin, permanence, equal_sheets, some_seat, progress}

books : (L : Type 0) (g : Store L) (h : History L) → Run L g h → SameBooks g
books L g h r w u j ls ms p q = equal_sheets L (List L) g h r (λ xs. xs) w u j ls ms p q

-- every run keeps all promises
pub promises : (L : Type 0) (g : Store L) (h : History L) → Run L g h → Promised g h
promises L g h r = record {
  agreement = agreement L g h r;
  origin = origin L g h r;
  permanence = permanence L g h r;
  equal_sheets = books L g h r;
  some_seat = some_seat L g h r;
  progress = progress L g h r;
}

module _ {L : Type 0} where
  pub store_same : (a b : Store L) → Same a b → a ≡ b
  store_same a b s = λ i. record {
    workers = s.workers i;
    hand = s.hand i;
    accepted = s.accepted i;
    learned = s.learned i;
    messages = s.messages i;
    places = s.places i;
    roster = s.roster i;
  }

  -- the longer run
  pub goes_on : (s : Step L) (g g' : Store L) → g' ≡ step_after s g → GoesOn s g g'
  goes_on s g g' e h r =
      let run : Run L g' (grown s g h) = subst (λ q. Run L q (grown s g h)) (sym e) (next r s) in
      record { run = run; promised = promises L g' (grown s g h) run }

  run-plays : (ss : List (Step L)) (g : Store L) (h : History L) → Run L g h → Run L (plays ss g) (recorded ss g h)
  run-plays [] g h r = r
  run-plays (s ∷ ss) g h r = run-plays ss (step_after s g) (grown s g h) (next r s)

  pub plays_on : (ss : List (Step L)) (g g' : Store L) → g' ≡ plays ss g → PlaysOn ss g g'
  plays_on ss g g' e h r =
      let run : Run L g' (recorded ss g h) = subst (λ q. Run L q (recorded ss g h)) (sym e) (run-plays ss g h r) in
      record { run = run; promised = promises L g' (recorded ss g h) run }

-- A made group begins a run, or refuses every step.
use Rattle.std.proofs.Common.{◌≡◌, ℕ, Bool, true, false, cond, List, [], length, replicate, None, Err, Option, refl, ap, ◌∙◌}
use lib.ListN.{length-replicate}
use Rattle.std.proofs.lemmas.Bool.{cond-true}
use Rattle.protocol.specs.declared.fault.StepFault.TheVariants.{Unmade}
use Rattle.roster.specs.declared.entry.Entry.{Entry}
use Rattle.roster.specs.Model.{RosterModel}
use Rattle.protocol.specs.declared.step.Step.{Step}
use Rattle.protocol.specs.declared.worker.Worker.{Worker}
use Rattle.protocol.specs.Faults.{worker_in}
use Rattle.protocol.specs.Promises.{Begins}
use Rattle.protocol.specs.Sizes.{sized_test}
use Rattle.protocol.specs.Store.{Store, blank, made_in, made_of, step_answer}
use Rattle.protocol.proofs.Starts.{begins}
use Rattle.protocol.proofs.Unmade.{unmade_refuses}

module _ {L : Type 0} (ws : List Worker) (hs qs ls : List (Option L)) (room : ℕ) (m : RosterModel (Entry L)) where
  abbrev right : Bool
  right = sized_test (length ws) (length hs) (length qs) (length ls) room

  abbrev made : Store L
  made = made_of ws hs qs ls room m

  -- emptied tables are as long as they were
  sizes_stay : made_in made ≡ right
  sizes_stay =
      elim right as (λ b. made_in (cond b (record { workers = replicate (length ws) blank; hand = replicate (length hs) None; accepted = replicate (length qs) None; learned = replicate (length ls) None; messages = []; places = room; roster = m }) (record { workers = ws; hand = hs; accepted = qs; learned = ls; messages = []; places = room; roster = m })) ≡ right) [
        | true ↦ λ i. sized_test (length-replicate (length ws) blank i) (length-replicate {A = Option L} (length hs) None i) (length-replicate {A = Option L} (length qs) None i) (length-replicate {A = Option L} (length ls) None i) room
        | false ↦ refl
      ]

  pub made_begins : (g : Store L) → g ≡ made → right ≡ true → m.entries ≡ [] → Begins g
  made_begins g e h empty =
      let p = e ∙ cond-true right _ _ h in
      begins g (length ws) (length hs) (length qs) (length ls) (ap (λ s. made_in s) e ∙ sizes_stay ∙ h) (ap (λ s. s.workers) p) (ap (λ s. s.hand) p) (ap (λ s. s.accepted) p) (ap (λ s. s.learned) p)
      (ap (λ s. s.messages) p) (ap (λ s. s.roster.entries) p ∙ empty)

  pub unmade_refused : (g : Store L) → g ≡ made → right ≡ false → (s : Step L) → step_answer s g ≡ Err (record { fault = Unmade; worker = worker_in s })
  unmade_refused g e h s = (unmade_refuses L g (ap (λ s. made_in s) e ∙ sizes_stay ∙ h)).0 s

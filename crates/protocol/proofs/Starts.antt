-- A group of right sizes with empty cells, zeros and no message begins a run with any empty roster.
use Rattle.std.proofs.Common.{◌≡◌, ℕ, ◌*◌, true, eqb, leb, [], length, replicate, None, Option, sym, refl, ap, ◌∙◌, subst, arith}
use lib.ListN.{length-replicate}
use Rattle.std.proofs.lemmas.Bool.{and_parts, leb-true, eqb-true}
use Rattle.protocol.specs.Limits.{lines, workers_min, workers_max, messages_min, messages_max}
use Rattle.protocol.specs.Sizes.{Sized, sized_test}
use Rattle.protocol.specs.Store.{Store, blank, made_in}
use Rattle.protocol.specs.Runs.{Run, nothing, fresh}
use Rattle.protocol.specs.Promises.{Begins}
use Rattle.protocol.specs.Runs.Run.{start}
use Rattle.protocol.proofs.Chain.{store_same, promises}

pub sized_from : (a b c d e : ℕ) → sized_test a b c d e ≡ true → Sized a b c d e
sized_from a b c d e h =
    let h1 = and_parts (leb workers_min a) _ h in
    let h2 = and_parts (leb a workers_max) _ h1.1 in
    let h3 = and_parts (eqb b (lines * a)) _ h2.1 in
    let h4 = and_parts (eqb c (lines * a)) _ h3.1 in
    let h5 = and_parts (eqb d (lines * a)) _ h4.1 in
    let h6 = and_parts (leb messages_min e) _ h5.1 in
    record {
      few = leb-true workers_min a h1.0;
      many = leb-true a workers_max h2.0;
      hands = eqb-true b (lines * a) h3.0;
      accepteds = eqb-true c (lines * a) h4.0;
      learneds = eqb-true d (lines * a) h5.0;
      least = leb-true messages_min e h6.0;
      most = leb-true e messages_max h6.1;
    }

abbrev none : (X : Type 0) → Option X
none X = None

module _ {L : Type 0} where
  pub begins : (g : Store L) (n h a l : ℕ) → made_in g ≡ true → g.workers ≡ replicate n blank → g.hand ≡ replicate h (none L) → g.accepted ≡ replicate a (none L) → g.learned ≡ replicate l (none L)
      → g.messages ≡ [] → g.roster.entries ≡ [] → Begins g
  begins g n h a l made ew eh ea el em ee =
      let s = sized_from (length g.workers) (length g.hand) (length g.accepted) (length g.learned) g.places made in
      let ln : length g.workers ≡ n = ap length ew ∙ length-replicate n blank in
      let lh : h ≡ lines * n = sym (ap length eh ∙ length-replicate h (none L)) ∙ s.hands ∙ ap (λ i. lines * i) ln in
      let la : a ≡ lines * n = sym (ap length ea ∙ length-replicate a (none L)) ∙ s.accepteds ∙ ap (λ i. lines * i) ln in
      let ll : l ≡ lines * n = sym (ap length el ∙ length-replicate l (none L)) ∙ s.learneds ∙ ap (λ i. lines * i) ln in
      let z : Sized n (lines * n) (lines * n) (lines * n) g.places = record { few = (let q = s.few in omega arith); many = (let q = s.many in omega arith); hands = refl; accepteds = refl; learneds = refl; least = s.least; most = s.most } in
      let run : Run L g nothing =
      subst (λ q. Run L q nothing) (sym (store_same g (fresh n g.places g.roster.capacity g.roster.state) (record {
        workers = ew;
        hand = eh ∙ ap (λ i. replicate i (none L)) lh;
        accepted = ea ∙ ap (λ i. replicate i (none L)) la;
        learned = el ∙ ap (λ i. replicate i (none L)) ll;
        messages = em;
        places = refl;
        roster = λ i. record { entries = ee i; capacity = g.roster.capacity; state = g.roster.state };
      }))) (start n g.places g.roster.capacity g.roster.state z) in
      record { run = run; promised = promises L g nothing run }

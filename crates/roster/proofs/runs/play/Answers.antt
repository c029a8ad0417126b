-- The law of all rosters says the rest.
use Rattle.std.proofs.Common.{◌≡◌, arith}
use Rattle.std.proofs.lemmas.Grind.{common_steps}
use Rattle.roster.specs.Runs.{after_calls}
use Rattle.roster.proofs.Staying.{calls_grown, entries_stay}
use Rattle.roster.proofs.runs.play.Goals as goal

pub returns-clause-grown : goal.returns-clause-grown
returns-clause-grown g c =
    let m = g.R.Roster.model c.args.roster.now in
    let e : g.R.Roster.model c.loop-call.roster ≡ after_calls c.args.calls.now m = grind (arith, common_steps) in
    rw e (calls_grown m c.args.calls.now (g.met.R.Roster.bounded c.args.roster.now))

pub returns-clause-law : goal.returns-clause-law
returns-clause-law g c = entries_stay _

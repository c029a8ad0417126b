-- What the steps that are left do to the store is what all steps do to the first.
use Rattle.std.proofs.Common.{◌≡◌, drop}
use Rattle.protocol.specs.Runs.{plays}
use Rattle.group.specs.Views.{store_of}
use Rattle.group.proofs.state.Group.play.Given as goal

abbrev pub invariant-loop-step : goal.invariant-loop-step
invariant-loop-step g l =
    plays (drop l.step-index l.steps) (store_of l.self (g.R.Roster.model l.roster))
    ≡ plays l.steps (store_of l.initial.self (g.R.Roster.model l.initial.roster))

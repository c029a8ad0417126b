-- The roster so far is what the calls so far leave.
use Rattle.std.proofs.Common.{◌≡◌, take}
use Rattle.roster.specs.Runs.{after_calls}
use Rattle.roster.proofs.runs.play.Given as goal

abbrev pub invariant-loop-call : goal.invariant-loop-call
invariant-loop-call g l = g.R.Roster.model l.roster ≡ after_calls (take l.call-index l.calls) (g.R.Roster.model l.initial.roster)

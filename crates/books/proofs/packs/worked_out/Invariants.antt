-- The sheet of the lines so far, which are all held.
use Rattle.std.proofs.Common.{◌+◌, ◌-◌, ◌≤◌}
use Rattle.roster.specs.declared.entry.Entry.{Entry}
use Rattle.roster.specs.Model.{RosterModel}
use Rattle.pack.specs.declared.stored.StoredPackLine.{StoredPackLine}
use Rattle.group.specs.Views.{store_of}
use Rattle.books.specs.Sheets.{packs_of}
use Rattle.books.proofs.Working.{SoFar}
use Rattle.books.proofs.packs.worked_out.Given as goal

abbrev pub invariant-loop-k : goal.invariant-loop-k
invariant-loop-k l = record {
  within : l.k ≤ l.to + 1;
  worked : (m : RosterModel (Entry StoredPackLine)) → SoFar packs_of (store_of l.group m) l.worker (l.k - 1) l.sheet;
}

-- The table is its used part, which is the roster's list, and then what is left.
use Rattle.std.proofs.Common.{◌≡◌, ◌++◌, take, drop, sym, rules}
use Rattle.std.proofs.lemmas.List.{take-append-drop}
use Rattle.roster_tests.proofs.lends.append_first.Goals as goal

pub returns-clause-begins : goal.returns-clause-begins
returns-clause-begins c =
    let s = c.append.new.self in
    let whole : s.table.now ≡ take s.len s.table.now ++ drop s.len s.table.now = sym (take-append-drop s.len s.table.now) in
    (drop s.len s.table.now, search rules)

-- What appending two entries and reading the first back answers and leaves. Assumes nothing.
--
--   one m p x             the roster after an append of x at p
--   pair_answer m p x y   the answer to appends of x at p and of y at the place after it, and a read of p, up to a refusal
--   pair_after m p x y    the roster then
use Rattle.std.specs.Prelude.{ℕ, ◌+◌, Result, is_ok, if◌then◌else◌}
use Rattle.std.specs.Result.{result_and}
use Rattle.roster.specs.declared.fault.RosterFault.{RosterFault}
use Rattle.roster.specs.Answers.{append_answer, appended_to, read_answer}
use Rattle.roster.specs.Model.{RosterModel}

module _ {E : Type 0} where
  abbrev pub one : RosterModel E → ℕ → E → RosterModel E
  one m p x = appended_to (append_answer m p) m x

  abbrev pub pair_answer : RosterModel E → ℕ → E → E → Result E RosterFault
  pair_answer m p x y =
      result_and (append_answer m p) (result_and (append_answer (one m p x) (p + 1)) (read_answer (one (one m p x) (p + 1) y) p))

  abbrev pub pair_after : RosterModel E → ℕ → E → E → RosterModel E
  pair_after m p x y = if is_ok (append_answer m p) then one (one m p x) (p + 1) y else m

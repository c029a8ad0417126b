use Rattle.std.proofs.Common.{◌≡◌, ◌^◌, ◌<◌, drop, Some, fold}
use Rattle.text.specs.Texts.{digit_on, decimal}
use Rattle.text.proofs.bytes.decimal_of.Given as goal

-- the number so far, with the digits that are left after it, is the whole number
abbrev pub invariant-loop-b : goal.invariant-loop-b
invariant-loop-b l = (fold digit_on (Some l.n) (drop l.b-index l.digits) ≡ decimal l.digits) × (l.n < 10 ^ l.b-index)

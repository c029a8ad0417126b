use Rattle.std.proofs.Common.{◌≡◌, take}
use Rattle.pack.specs.Sheets.{worked_on}
use Rattle.pack.proofs.sheet.PackSheet.apply_all.Given as goal

-- the sheet after the lines so far
abbrev pub invariant-loop-line : goal.invariant-loop-line
invariant-loop-line l = l.self ≡ worked_on l.initial.self (take l.line-index l.lines)

-- The index of the first such byte, or the length, is how far the run goes.
use Rattle.std.proofs.Common.{arith, eqb, not}
use Rattle.std.proofs.lemmas.Grind.{common_steps}
use Rattle.std.proofs.lemmas.List.Sums.{prefix_len-le-length}
use Rattle.text.proofs.bytes.run_length.Goals as goal

pub returns : goal.returns
returns c =
    let le = prefix_len-le-length (λ b. not (eqb b c.args.stop)) c.args.bytes.now in
    record { value = grind (arith, common_steps, le); bound = grind (arith, common_steps, le) }

-- The reader takes what its rule does, and the answer goes on from that.
use Rattle.std.proofs.Common.{Ok, Err, refl, ap, ◌∙◌}
use Rattle.std.proofs.lemmas.Result.{err_from_is_err_and}
use Rattle.text.specs.Reading.{Takes, unread_at}
use Rattle.text.proofs.Whole.{refused, at_end}
use Rattle.text.proofs.fields.parse_line.Goals as goal

pub returns-in_err-read : goal.returns-in_err-read
returns-in_err-read g c rule reads =
    let t : Takes rule (unread_at c.args.line.now 0) c.take.result c.take.new.arg2 =
    reads _ _ c.take.result (record { shown = _; shows = c.new-fields.ensures.value; left = _; met = c.take.ensures; leaves = refl }) in
    let p = err_from_is_err_and c.from_residual-in_err-read.result c.from_residual-in_err-read.ensures.1 in
    p.1 ∙ ap Err p.2 ∙ refused rule c.args.line.now c.take.result c.take.new.arg2 c.in_ok-check_length.ensures t _ c.in_err-read.was

pub returns-in_err-end : goal.returns-in_err-end
returns-in_err-end g c rule reads =
    let t : Takes rule (unread_at c.args.line.now 0) c.take.result c.take.new.arg2 =
    reads _ _ c.take.result (record { shown = _; shows = c.new-fields.ensures.value; left = _; met = c.take.ensures; leaves = refl }) in
    let p = err_from_is_err_and c.from_residual-in_err-end.result c.from_residual-in_err-end.ensures.1 in
    p.1 ∙ ap Err p.2 ∙ at_end rule c.args.line.now c.take.result c.take.new.arg2 c.in_ok-check_length.ensures t c.in_ok-read.read (Err _) c.in_ok-read.was c.in_err-end.ensures.value

pub returns : goal.returns
returns g c rule reads =
    let t : Takes rule (unread_at c.args.line.now 0) c.take.result c.take.new.arg2 =
    reads _ _ c.take.result (record { shown = _; shows = c.new-fields.ensures.value; left = _; met = c.take.ensures; leaves = refl }) in
    at_end rule c.args.line.now c.take.result c.take.new.arg2 c.in_ok-check_length.ensures t c.in_ok-read.read (Ok _) c.in_ok-read.was c.in_ok-end.ensures.value

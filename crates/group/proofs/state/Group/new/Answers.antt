-- The store is that of a made group, with whatever roster stands beside it.
use Rattle.std.proofs.Common.{length}
use Rattle.group.proofs.Made.{made_begins, unmade_refused}
use Rattle.group.proofs.state.Group.new.Goals as goal

pub returns : goal.returns
returns g c =
    let e = c.new.ensures in
    let ws = c.args.workers.now in
    let hs = c.args.hand.now in
    let qs = c.args.accepted.now in
    let ls = c.args.learned.now in
    let room = length c.args.messages.now in
    record {
      value = e.value;
      same = e.same;
      promise = λ h m empty. made_begins ws hs qs ls room m _ (e.value m) h empty;
      unmade = λ h m s. unmade_refused ws hs qs ls room m _ (e.value m) h s;
    }

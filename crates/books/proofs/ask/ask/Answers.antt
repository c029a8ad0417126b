-- The group tells how many workers it has, or none where it is not made.
use Rattle.group.specs.Views.{store_of}
use Rattle.books.proofs.Questions.{asked_yes, asked_stranger, asked_unmade}
use Rattle.books.proofs.ask.ask.Goals as goal

pub returns-in-None : goal.returns-in-None
returns-in-None g c m = asked_unmade (store_of c.args.group.now m) c.args.worker (c.in-None.ensures m)

pub returns-in-Some : goal.returns-in-Some
returns-in-Some g c m = asked_stranger (store_of c.args.group.now m) c.args.worker c.in-Some.count (c.in-Some.ensures m) c.if-worker-count.true

pub returns-in-Some-2 : goal.returns-in-Some-2
returns-in-Some-2 g c m = asked_yes (store_of c.args.group.now m) c.args.worker c.in-Some.count (c.in-Some.ensures m) c.if-worker-count.false

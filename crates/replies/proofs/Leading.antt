-- That a line of a script leads on to a run.
use Rattle.std.proofs.Common.{◌≡◌, ℕ, List, Ok, Err, Result, sym, subst}
use Rattle.pack.specs.declared.stored.StoredPackLine.{StoredPackLine}
use Rattle.text.specs.declared.fields.BadField.{BadField}
use Rattle.protocol.specs.Runs.{History, Run}
use Rattle.protocol.specs.Store.{Store}
use Rattle.protocol.proofs.Chain.{goes_on, promises}
use Rattle.commands.specs.declared.command.Command.{Command}
use Rattle.commands.specs.declared.command.Command.TheVariants.{Do, Sheet}
use Rattle.commands.specs.Commands.{command_of}
use Rattle.replies.specs.Replies.{store_after, history_after, store_on, Led, LineGoesOn}

abbrev store_in : Store StoredPackLine → Result Command BadField → Store StoredPackLine
store_in g r = elim r [ Err e ↦ g | Ok c ↦ store_after g c ]

abbrev history_in : Store StoredPackLine → History StoredPackLine → Result Command BadField → History StoredPackLine
history_in g h r = elim r [ Err e ↦ h | Ok c ↦ history_after g h c ]

stays : (g g' : Store StoredPackLine) (h : History StoredPackLine) → g' ≡ g → Run StoredPackLine g h → Led g' h
stays g g' h e r =
    let run : Run StoredPackLine g' h = subst (λ q. Run StoredPackLine q h) (sym e) r in
    record { run = run; promised = promises StoredPackLine g' h run }

led : (r : Result Command BadField) (g g' : Store StoredPackLine) → g' ≡ store_in g r → (h : History StoredPackLine) → Run StoredPackLine g h → Led g' (history_in g h r)
led (Ok (Do s)) g g' e h run = let o = goes_on s g g' e h run in record { run = o.run; promised = o.promised }
led (Ok (Sheet w)) g g' e h run = stays g g' h e run
led (Err f) g g' e h run = stays g g' h e run

pub line_goes_on : (bs : List ℕ) (g g' : Store StoredPackLine) → g' ≡ store_on g bs → LineGoesOn bs g g'
line_goes_on bs g g' e h run = led (command_of bs) g g' e h run

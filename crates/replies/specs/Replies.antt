-- What is answered to the lines of a script, and what they do to a group. Assumes nothing.
--
-- step_reply r       what is answered to a step with the answer r
-- sheet_reply j r    what is answered to a question for the sheet to line j with the answer r
-- reply_to g c       what is answered to the command c; a sheet goes to the last line with none missing before it
-- store_after g c    the group and its roster after the command c: a question changes nothing
-- history_after      the history of a run after the command c
-- reply_of g bs      what is answered to the line bs, or which of its fields is bad
-- store_on g bs      the group and its roster after the line bs: a bad line changes nothing
-- history_on         the history of a run after the line bs
-- LineGoesOn         from whatever run led to the store g, the line bs leads on to g', where all promises hold
use Rattle.std.specs.Prelude.{ℕ, List, Ok, Err, Result}
use Rattle.pack.specs.declared.sheet.PackSheet.{PackSheet}
use Rattle.pack.specs.declared.stored.StoredPackLine.{StoredPackLine}
use Rattle.packtext.specs.Shown.{figures_of}
use Rattle.protocol.specs.declared.fault.Refusal.{Refusal}
use Rattle.protocol.specs.declared.fault.StepFault.{StepFault}
use Rattle.protocol.specs.declared.step.Answer.{Answer}
use Rattle.protocol.specs.declared.step.Answer.TheVariants as Answers
use Rattle.protocol.specs.Faults.{number, layer_of}
use Rattle.protocol.specs.Runs.{History, Run, grown}
use Rattle.protocol.specs.Promises.{Promised}
use Rattle.protocol.specs.Store.{Store, step_after, step_answer}
use Rattle.books.specs.declared.fault.SheetFault.{SheetFault}
use Rattle.books.specs.Faults.{sheet_number, sheet_layer}
use Rattle.books.specs.Sheets.{held_to, pack_sheet_to}
use Rattle.text.specs.declared.fields.BadField.{BadField}
use Rattle.commands.specs.declared.command.Command.{Command}
use Rattle.commands.specs.declared.command.Command.TheVariants as Commands
use Rattle.commands.specs.Commands.{command_of}
use Rattle.replies.specs.declared.run.Reply.{Reply}
use Rattle.replies.specs.declared.run.Reply.TheVariants.{Done, Held, Refused, Sheet}

abbrev pub step_reply : Result Answer (Refusal StepFault) → Reply
step_reply (Ok Answers.Done) = Done
step_reply (Ok Answers.Held) = Held
step_reply (Err f) = Refused (number f.fault) (layer_of f.fault)

abbrev pub sheet_reply : ℕ → Result PackSheet (Refusal SheetFault) → Reply
sheet_reply j (Ok s) = Sheet j (figures_of s)
sheet_reply j (Err f) = Refused (sheet_number f.fault) (sheet_layer f.fault)

abbrev pub sheet_of_worker : Store StoredPackLine → ℕ → Reply
sheet_of_worker g w = sheet_reply (held_to g w) (pack_sheet_to g w (held_to g w))

abbrev pub reply_to : Store StoredPackLine → Command → Reply
reply_to g (Commands.Do s) = step_reply (step_answer s g)
reply_to g (Commands.Sheet w) = sheet_of_worker g w

abbrev pub store_after : Store StoredPackLine → Command → Store StoredPackLine
store_after g (Commands.Do s) = step_after s g
store_after g (Commands.Sheet w) = g

abbrev pub history_after : Store StoredPackLine → History StoredPackLine → Command → History StoredPackLine
history_after g h (Commands.Do s) = grown s g h
history_after g h (Commands.Sheet w) = h

abbrev pub reply_of : Store StoredPackLine → List ℕ → Result Reply BadField
reply_of g bs = elim (command_of bs) [ Err e ↦ Err e | Ok c ↦ Ok (reply_to g c) ]

abbrev pub store_on : Store StoredPackLine → List ℕ → Store StoredPackLine
store_on g bs = elim (command_of bs) [ Err e ↦ g | Ok c ↦ store_after g c ]

abbrev pub history_on : Store StoredPackLine → History StoredPackLine → List ℕ → History StoredPackLine
history_on g h bs = elim (command_of bs) [ Err e ↦ h | Ok c ↦ history_after g h c ]

-- the store g' is that of a run with the history h, and all promises hold there
pub record Led (g' : Store StoredPackLine) (h : History StoredPackLine) : Type 0 where
  pub run : Run StoredPackLine g' h
  pub promised : Promised g' h

abbrev pub LineGoesOn : List ℕ → Store StoredPackLine → Store StoredPackLine → Type 0
LineGoesOn bs g g' = (h : History StoredPackLine) → Run StoredPackLine g h → Led g' (history_on g h bs)

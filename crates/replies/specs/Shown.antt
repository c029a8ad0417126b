-- What is written of a reply. Assumes nothing.
--
-- reply_text r        the bytes that are written of the reply r
use Rattle.std.specs.Prelude.{ℕ, List, ◌++◌, codes, decimal}
use Rattle.packtext.specs.Shown.{figures_text}
use Rattle.protocol.specs.Shown.{layer_text}
use Rattle.replies.specs.declared.run.Reply.{Reply}
use Rattle.replies.specs.declared.run.Reply.TheVariants.{Done, Held, Refused, Sheet}

-- `ok`, `held`, `no FAULT LAYER` or `sheet LINES CHARGE TIME`
abbrev pub reply_text : Reply → List ℕ
reply_text Done = codes "ok"
reply_text Held = codes "held"
reply_text (Refused f l) = codes "no " ++ (decimal f ++ (codes " " ++ layer_text l))
reply_text (Sheet j f) = codes "sheet " ++ (decimal j ++ (codes " " ++ figures_text f))

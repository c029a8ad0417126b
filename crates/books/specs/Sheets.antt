-- Sheets that are worked out from the lines 1 to j which a worker of a group holds. Assumes nothing.
--
-- | word            | meaning                                                                                         |
-- |-----------------|-------------------------------------------------------------------------------------------------|
-- | asked_of g w    | the questions of every sheet: the group is made (1), and has the worker w (2)                   |
-- | lines_to g w j  | the lines 1 to j of worker w, or the first question that is answered with no, the last of which |
-- |                 | is whether they are all held (12); no line is held above 64, and for j = 0 the list is empty    |
-- | works_out       | a sheet worked out from the lines of an answer                                                  |
-- | no_sheet        | nothing is worked out: the lines are only asked for                                             |
-- | asked_to g w j  | whether worker w holds the lines 1 to j, or the first question that is answered with no         |
-- | packs_of        | the pack sheet of stored lines                                                                  |
-- | pack_sheet_to   | the pack sheet of the lines 1 to j of worker w                                                  |
-- | key_sheet_to    | the key sheet of the lines 1 to j of worker w, on a table of capacity c                         |
-- | key_sheet_got   | an answer together with the table that was filled: its pairs and the counts, or the refusal     |
-- | goes_on         | the farther of two numbers where a line is held, else the nearer                                |
-- | held_from       | where the lines after line j, and n of them at most, go on to without a gap                     |
-- | held_to g w     | the number of the last line of worker w with none missing before it; 0 where line 1 is not held |
-- | HeldTo g w j    | worker w holds the lines 1 to j all, and not line j + 1                                         |
-- | AlikePacks      | two pack sheets have equal charge, remaining time or none, and counts                           |
-- | AlikeKeys       | two key sheets have equal pairs in every used place, and equal counts                           |
-- | EqualPackSheets | in every run that leads here, whoever has a pack sheet to j has one that equals worker w's      |
-- | EqualKeySheets  | the same of key sheets on tables of one capacity                                                |
use Rattle.std.specs.Prelude.{◌≡◌, ℕ, zero, suc, ◌+◌, Bool, cond, List, map, length, Some, None, Ok, Err, Option, Result, nat_lt, ok_or}
use Rattle.std.specs.Result.{result_and}
use Rattle.protocol.specs.declared.fault.Refusal.{Refusal}
use Rattle.protocol.specs.Faults.{told_of}
use Rattle.protocol.specs.Limits.{lines}
use Rattle.protocol.specs.Runs.{History, Run, holds, book_to}
use Rattle.protocol.specs.Store.{Store, made_in}
use Rattle.pack.specs.declared.sheet.PackSheet.{PackSheet}
use Rattle.pack.specs.declared.stored.StoredPackLine.{StoredPackLine}
use Rattle.pack.specs.Sheets.{sheet_of as packsIn, remaining_of}
use Rattle.pack.specs.Stored.{restored_of}
use Rattle.keylines.specs.declared.lines.ChannelLine.{ChannelLine}
use Rattle.keylines.specs.Sheets.{Sheet, sheet_of as keysIn}
use Rattle.keys.specs.declared.sheet.KeySheet.{KeySheet}
use Rattle.keys.specs.declared.table.KeyTable.{KeyTable}
use Rattle.keys.specs.Views.{sheet_now}
use Rattle.books.specs.declared.fault.SheetFault.{SheetFault}
use Rattle.books.specs.declared.fault.SheetFault.TheVariants.{Unmade, NoWorker, NotHeld}

abbrev pub works_out : {X Y : Type 0} → (X → Y) → Result X SheetFault → Result Y SheetFault
works_out sheet (Ok x) = Ok (sheet x)
works_out sheet (Err f) = Err f

module _ {L : Type 0} where
  abbrev pub asked_of : Store L → ℕ → Result Unit SheetFault
  asked_of g w = cond (made_in g) (cond (nat_lt w (length g.workers)) (Ok tt) (Err NoWorker)) (Err Unmade)

  abbrev pub lines_to : Store L → ℕ → ℕ → Result (List L) SheetFault
  lines_to g w j = result_and (asked_of g w) (ok_or (book_to g w j) NotHeld)

  abbrev pub no_sheet : List L → Unit {0}
  no_sheet ls = tt

  abbrev pub asked_to : Store L → ℕ → ℕ → Result Unit SheetFault
  asked_to g w j = works_out no_sheet (lines_to g w j)

  abbrev pub goes_on : Option L → ℕ → ℕ → ℕ
  goes_on None far near = near
  goes_on (Some l) far near = far

  unfoldable pub held_from : Store L → ℕ → ℕ → ℕ → ℕ
  held_from g w zero j = j
  held_from g w (suc n) j = goes_on (holds g w (j + 1)) (held_from g w n (j + 1)) j

  abbrev pub held_to : Store L → ℕ → ℕ
  held_to g w = held_from g w lines 0

  pub record HeldTo (g : Store L) (w j : ℕ) : Type 0 where
    pub book : List L
    pub all : book_to g w j ≡ Some book
    pub end : holds g w (j + 1) ≡ None

abbrev pub packs_of : List StoredPackLine → PackSheet
packs_of ls = packsIn (map restored_of ls)

abbrev pub pack_sheet_to : Store StoredPackLine → ℕ → ℕ → Result PackSheet (Refusal SheetFault)
pack_sheet_to g w j = told_of w (works_out packs_of (lines_to g w j))

-- floats are equal bit for bit
pub record AlikePacks (s t : PackSheet) : Type 0 where
  pub charge : s.charge ≡ t.charge
  pub remaining : remaining_of s ≡ remaining_of t
  pub fit : s.fit ≡ t.fit
  pub unfit : s.unfit ≡ t.unfit

abbrev pub EqualPackSheets : Store StoredPackLine → ℕ → ℕ → Type 0
EqualPackSheets g w j =
    (h : History StoredPackLine) → Run StoredPackLine g h → (u : ℕ) (s t : PackSheet) → pack_sheet_to g w j ≡ Ok s → pack_sheet_to g u j ≡ Ok t → AlikePacks s t

abbrev pub key_sheet_to : {K : Type 0} → (K → K → Bool) → ℕ → Store (ChannelLine K) → ℕ → ℕ → Result (Sheet K) (Refusal SheetFault)
key_sheet_to alike c g w j = told_of w (works_out (keysIn alike c) (lines_to g w j))

abbrev pub key_sheet_got : {K : Type 0} → KeyTable K → Result KeySheet (Refusal SheetFault) → Result (Sheet K) (Refusal SheetFault)
key_sheet_got t (Ok s) = Ok (sheet_now t s)
key_sheet_got t (Err f) = Err f

pub record AlikeKeys {K : Type 0} (s t : Sheet K) : Type 0 where
  pub pairs : s.pairs ≡ t.pairs
  pub fit : s.fit ≡ t.fit
  pub unfit : s.unfit ≡ t.unfit

abbrev pub EqualKeySheets : {K : Type 0} → (K → K → Bool) → ℕ → Store (ChannelLine K) → ℕ → ℕ → Type 0
EqualKeySheets {K} alike c g w j =
    (h : History (ChannelLine K)) → Run (ChannelLine K) g h → (u : ℕ) (s t : Sheet K) → key_sheet_to alike c g w j ≡ Ok s → key_sheet_to alike c g u j ≡ Ok t → AlikeKeys s t

-- Two tables that the same lines were applied to. Assumes nothing.
--
-- | word        | meaning                                                                                         |
-- |-------------|-------------------------------------------------------------------------------------------------|
-- | SheetsAgree | lines led from the table t and the sheet s to t' and s': wherever they lead from a table of the |
-- |             | same capacity with the same pairs and counts, pairs, places and counts are those of t' and s',  |
-- |             | whatever else the two slices held                                                               |
use Rattle.std.specs.Prelude.{◌≡◌, Bool, List}
use Rattle.keylines.specs.declared.lines.ChannelLine.{ChannelLine}
use Rattle.keys.specs.declared.table.KeyTable.{KeyTable}
use Rattle.keys.specs.declared.sheet.KeySheet.{KeySheet}
use Rattle.keylines.specs.Sheets.{worked_on}
use Rattle.keys.specs.Views.{table_capacity, sheet_now}

abbrev pub SheetsAgree : {K : Type 0} → (K → K → Bool) → List (ChannelLine K) → KeyTable K → KeySheet → KeyTable K → KeySheet → Type 0
SheetsAgree {K} alike lines t s t' s' =
    (u u' : KeyTable K) (v v' : KeySheet) → table_capacity u ≡ table_capacity t → sheet_now u v ≡ sheet_now t s → sheet_now u' v' ≡ worked_on alike (table_capacity u) (sheet_now u v) lines
    → sheet_now u' v' ≡ sheet_now t' s'

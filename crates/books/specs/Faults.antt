-- What a refused sheet tells: its number and its layer. Assumes nothing.
--
-- | word         | meaning                                                   |
-- |--------------|-----------------------------------------------------------|
-- | sheet_number | the number of a fault                                     |
-- | sheet_layer  | the layer that refuses a sheet: the group, whatever fault |
use Rattle.std.specs.Prelude.{ℕ}
use Rattle.protocol.specs.declared.fault.Layer.{Layer}
use Rattle.protocol.specs.declared.fault.Layer.TheVariants.{Group}
use Rattle.books.specs.declared.fault.SheetFault.{SheetFault}
use Rattle.books.specs.declared.fault.SheetFault.TheVariants.{Unmade, NoWorker, NotHeld}

abbrev pub sheet_number : SheetFault → ℕ
sheet_number Unmade = 1
sheet_number NoWorker = 2
sheet_number NotHeld = 12

abbrev pub sheet_layer : SheetFault → Layer
sheet_layer f = Group

-- What a channel sheet stands for. Assumes nothing.
--
-- channel_sheet s      the pairs of the table, and the counts of the lines that were applied to it
-- channel_capacity s   how many pairs the table can hold
-- KeepsSlice s t       the tables of both lie in one slice, whose places past the capacity hold what they did
use Rattle.std.specs.Prelude.{ℕ}
use Rattle.keylines.specs.Sheets.{Sheet}
use Rattle.keylines.specs.declared.channels.Channel.{Channel}
use Rattle.keys.specs.Views.{SameSlice, table_capacity, sheet_now}
use Rattle.channeltext.specs.declared.sheet.ChannelSheet.{ChannelSheet}

abbrev pub channel_sheet : ChannelSheet → Sheet Channel
channel_sheet s = sheet_now s.table s.sheet

abbrev pub channel_capacity : ChannelSheet → ℕ
channel_capacity s = table_capacity s.table

abbrev pub KeepsSlice : ChannelSheet → ChannelSheet → Type 0
KeepsSlice s t = SameSlice s.table t.table

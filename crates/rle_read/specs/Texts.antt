-- The results of the reader's small parts as values, regardless of where they lie in memory.
use Rattle.std.specs.Prelude.{ℕ, List}
use Rattle.std.specs.Option.{option_copied}
use denote.Ref.{Bor}
use Rattle.pattern_reading.specs.Header.{Header}
use Rattle.pattern_reading.specs.Items.{TaggedDigits, Item, Cells, RowEnds, End, Blank, CutOff, NoItem}
use Rattle.rle_read.specs.declared.header.Header as lent_header
use Rattle.rle_read.specs.declared.items.TaggedDigits as lent_digits
use Rattle.rle_read.specs.declared.items.Item as read_item

abbrev pub header_of : lent_header.Header → Header
header_of h = record { width = h.width; height = h.height; rule = option_copied h.rule }

abbrev pub number_and_rest : ℕ × Bor (List ℕ) → ℕ × List ℕ
number_and_rest parts = (parts.0, parts.1.now)

abbrev pub tagged_digits_of : lent_digits.TaggedDigits → TaggedDigits
tagged_digits_of piece = record { digits = piece.digits.now; tag = piece.tag }

abbrev pub item_of : read_item.Item → Item
item_of (read_item.TheVariants.Cells n state) = Cells n state
item_of (read_item.TheVariants.RowEnds n) = RowEnds n
item_of read_item.TheVariants.End = End
item_of read_item.TheVariants.Blank = Blank
item_of read_item.TheVariants.CutOff = CutOff
item_of read_item.TheVariants.NoItem = NoItem

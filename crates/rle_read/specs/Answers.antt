-- What a reader of extended RLE answers.
use Rattle.std.specs.Prelude.{◌≡◌, ◌+◌, ◌*◌, ◌^◌, ◌≤◌, ◌<◌, ℕ, List, Some, None, true, false, codes, is_some, length}
use denote.Ref.{Bor}
use Rattle.pattern_reading.specs.declared.faults.RleFaultKind.{RleFaultKind}
use Rattle.pattern_reading.specs.declared.faults.RleFaultKind.TheVariants.{NoHeader, BadHeader, OtherRule, BadItem, CellOutside, NoEnd}
use Rattle.pattern_reading.specs.Lines.{last_line, lines_from, with_line_feeds}
use Rattle.pattern_reading.specs.Numbers.{after_word}
use Rattle.pattern_reading.specs.Header.{Header, header_in, header_line, is_wireworld, lines_after_header}
use Rattle.pattern_reading.specs.Pattern.{HasBox, HasLargeBox, HasReaderFault, most_cells}
use Rattle.pattern_lines.specs.Lines.{line_of}
use Rattle.pattern_lines.specs.declared.lines.Line as lent
use Rattle.rle_read.specs.declared.error.RleReadError.{RleReadError}
use Rattle.rle_read.specs.declared.error.RleReadError.TheVariants.{Fault, TooLarge, NoMemory}

-- The parts are the text's header line, and the text that holds the lines after it.
pub record IsHeaderAt (text : List ℕ) (parts : lent.Line × Bor (List ℕ)) : Type 0 where
  pub header : header_line text ≡ Some (line_of parts.0)
  pub after : lines_after_header text
      ≡ lines_from (parts.0.number + 1) (with_line_feeds parts.1.now)
  pub last : parts.0.number + length (lines_from (parts.0.number + 1) (with_line_feeds parts.1.now))
      ≡ last_line text
  pub room : parts.0.number + length parts.1.now < 2 ^ 64

-- this is the fault of the bytes of a header line
abbrev pub IsHeaderFault : List ℕ → RleFaultKind → Type 0
IsHeaderFault bytes NoHeader = after_word (codes "x") bytes ≡ None
IsHeaderFault bytes BadHeader =
    (is_some (after_word (codes "x") bytes) ≡ true) × (header_in bytes ≡ None)
IsHeaderFault bytes OtherRule =
    (header : Header) × (header_in bytes ≡ Some header) × (is_wireworld header.rule ≡ false)
IsHeaderFault bytes BadItem = ⊥
IsHeaderFault bytes CellOutside = ⊥
IsHeaderFault bytes NoEnd = ⊥

-- The reason why a reader reads no pattern from a text: its first fault; a box that is too large;
-- or, if the header is without fault and the box is not too large, that memory runs out.
abbrev pub HasReadReason : List ℕ → RleReadError → Type 0
HasReadReason text (Fault fault) = HasReaderFault text fault.kind fault.line
HasReadReason text (TooLarge width height) = HasLargeBox text width height
HasReadReason text NoMemory =
    (width height : ℕ) × HasBox text width height × (width * height ≤ most_cells)

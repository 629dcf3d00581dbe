-- Laws of the readings: a text says one thing.
use Rattle.std.specs.Prelude.{false, ◌≡◌, ◌<◌, ◌≤◌, ◌≢◌, ◌⊎◌, ℕ, ◌+◌, true, if◌then◌else◌, List, [], ◌∷◌, ◌++◌, map, length, filter_map, flat_map}
use Rattle.std.specs.List.{All, AllByRecursion, range_with_len}
use Rattle.std.specs.Str.Lines.{lines, strip_carriage_return}
use Rattle.ww_rule.specs.Grid.{Grid}
use Rattle.pattern_reading.specs.declared.faults.RleFaultKind.{RleFaultKind}
use Rattle.pattern_reading.specs.declared.faults.PortFaultKind.{PortFaultKind}
use Rattle.pattern_reading.specs.declared.ports.PortLine.{PortLine}
use Rattle.pattern_reading.specs.declared.ports.NetLine.{NetLine}
use Rattle.pattern_reading.specs.declared.ports.Ports.{Ports}
use Rattle.pattern_reading.specs.Lines.{Line, lines_of, with_line_feeds}
use Rattle.pattern_reading.specs.Numbers.{greatest_number}
use Rattle.pattern_reading.specs.Items.{Item, Cells, RowEnds, column_after, row_after}
use Rattle.pattern_reading.specs.Pattern.{ReadsAsPattern, HasRleFault, HasBox, HasLargeBox, HasReaderFault, ReadsWithinLimit, placed_items, state_in}
use Rattle.pattern_reading.specs.PortTable.{ReadsAsPorts, HasPortFault}

-- A text reads as at most one pattern.
abbrev pub HasOnePattern : List ℕ → Type 0
HasOnePattern text = (a b : Grid) → ReadsAsPattern text a → ReadsAsPattern text b → a ≡ b

-- A text has at most one first fault.
abbrev pub HasOneRleFault : List ℕ → Type 0
HasOneRleFault text =
    (k k' : RleFaultKind) (line line' : ℕ) → HasRleFault text k line → HasRleFault text k' line'
    → (k ≡ k') × (line ≡ line')

-- A text that reads as a pattern has no fault.
abbrev pub HasNoFaultIfRead : List ℕ → Type 0
HasNoFaultIfRead text =
    (grid : Grid) (kind : RleFaultKind) (line : ℕ) → ReadsAsPattern text grid
    → HasRleFault text kind line → ⊥

-- A text reads as a pattern or has a fault.
abbrev pub HasPatternOrFault : List ℕ → Type 0
HasPatternOrFault text =
    ((grid : Grid) × ReadsAsPattern text grid)
    ⊎ ((kind : RleFaultKind) × (line : ℕ) × HasRleFault text kind line)

-- A reader answers a text in one of three ways: a pattern, a fault and its line, or a box that is
-- too large with its width and height.
abbrev pub HasReaderAnswer : List ℕ → Type 0
HasReaderAnswer text =
    ((grid : Grid) × ReadsWithinLimit text grid)
    ⊎ ((kind : RleFaultKind) × (line : ℕ) × HasReaderFault text kind line)
    ⊎ ((width height : ℕ) × HasLargeBox text width height)

-- No two of the three answers are possible for one text, and a box has one width and one height.
pub record HasOneReaderAnswer (text : List ℕ) : Type 0 where
  pub reads_or_fault : (grid : Grid) (kind : RleFaultKind) (line : ℕ) → ReadsWithinLimit text grid
      → HasReaderFault text kind line → ⊥
  pub reads_or_large : (grid : Grid) (width height : ℕ) → ReadsWithinLimit text grid
      → HasLargeBox text width height → ⊥
  pub fault_or_large : (kind : RleFaultKind) (line width height : ℕ) → HasReaderFault text kind line
      → HasLargeBox text width height → ⊥
  pub one_box : (width height width' height' : ℕ) → HasBox text width height
      → HasBox text width' height' → (width ≡ width') × (height ≡ height')

-- The first four of these laws, for the port table of a text in a box of this width and height.
abbrev pub HasOneTable : List ℕ → ℕ → ℕ → Type 0
HasOneTable text width height =
    (a b : Ports) → ReadsAsPorts text width height a → ReadsAsPorts text width height b → a ≡ b

abbrev pub HasOnePortFault : List ℕ → ℕ → ℕ → Type 0
HasOnePortFault text width height =
    (k k' : PortFaultKind) (line line' : ℕ) → HasPortFault text width height k line
    → HasPortFault text width height k' line' → (k ≡ k') × (line ≡ line')

abbrev pub HasNoPortFaultIfRead : List ℕ → ℕ → ℕ → Type 0
HasNoPortFaultIfRead text width height =
    (ports : Ports) (kind : PortFaultKind) (line : ℕ) → ReadsAsPorts text width height ports
    → HasPortFault text width height kind line → ⊥

abbrev pub HasTableOrFault : List ℕ → ℕ → ℕ → Type 0
HasTableOrFault text width height =
    ((ports : Ports) × ReadsAsPorts text width height ports)
    ⊎ ((kind : PortFaultKind) × (line : ℕ) × HasPortFault text width height kind line)

-- a line with a line feed for its end, if it has one
abbrev pub with_end : Line → List ℕ
with_end line = line.bytes ++ (if line.is_ended then 10 ∷ [] else [])

-- The lines with their ends, joined, are the text with a line feed for each of its line ends.
abbrev pub HasAllInLines : List ℕ → Type 0
HasAllInLines text = flat_map with_end (lines_of text) ≡ with_line_feeds text

-- The lines are numbered from 1 on.
abbrev pub HasNumberedLines : List ℕ → Type 0
HasNumberedLines text =
    map (λ line. line.number) (lines_of text) ≡ range_with_len 1 (length (lines_of text))

-- The lines are those that `lines` of Rust returns.
abbrev pub HasLinesOfRust : List ℕ → Type 0
HasLinesOfRust text = map (λ line. line.bytes) (lines_of text) ≡ lines text

-- bytes without line feeds and carriage returns, which lie in one line whatever follows them
abbrev pub IsLineText : List ℕ → Type 0
IsLineText bytes = All (λ b. (b ≢ 10) × (b ≢ 13)) bytes

-- a line whose number is greater by n
abbrev pub later_by : ℕ → Line → Line
later_by n line = record line { number = n + line.number }

-- A line put before a text is the first line, and the other lines are the text's.
abbrev pub HasFirstLine : List ℕ → List ℕ → Type 0
HasFirstLine bytes rest =
    lines_of (bytes ++ 10 ∷ rest) ≡ record { number = 1; bytes = bytes; is_ended = true }
    ∷ map (later_by 1) (lines_of rest)

-- the place at which the next item begins, by the place of this item
abbrev pub next_column : Item → ℕ → ℕ
next_column (Cells n state) x = x + n
next_column (RowEnds n) x = 0
next_column _ x = x

abbrev pub next_row : Item → ℕ → ℕ
next_row (RowEnds n) y = y + n
next_row _ y = y

-- The sums of counts grow item by item.
abbrev pub HasNextPlace : Item → List Item → Type 0
HasNextPlace item before =
    (column_after (item ∷ before) ≡ next_column item (column_after before))
    × (row_after (item ∷ before) ≡ next_row item (row_after before))

-- Any text that is not empty is a line and the rest. The line ends before the first line feed, less
-- the carriage return directly before that; without a line feed it is all of the text.
abbrev pub HasLineThenRest : List ℕ → List ℕ → Type 0
HasLineThenRest bytes rest =
    All (λ b. b ≢ 10) bytes → lines_of (bytes ++ 10 ∷ rest) ≡ record
    { number = 1; bytes = strip_carriage_return bytes; is_ended = true }
    ∷ map (later_by 1) (lines_of rest)

abbrev pub HasLoneLine : List ℕ → Type 0
HasLoneLine bytes =
    All (λ b. b ≢ 10) bytes → bytes ≢ []
    → lines_of bytes ≡ record { number = 1; bytes = bytes; is_ended = false } ∷ []

-- The numbers of a header fit 64 bits.
abbrev pub HasSmallBox : List ℕ → ℕ → ℕ → Type 0
HasSmallBox text width height =
    HasBox text width height → (width ≤ greatest_number) × (height ≤ greatest_number)

-- a port in a box, and a net in a box
abbrev pub IsPortInside : ℕ → ℕ → PortLine → Type 0
IsPortInside width height port = (port.x < width) × (port.y < height)

abbrev pub IsNetInside : ℕ → ℕ → NetLine → Type 0
IsNetInside width height net = (net.x < width) × (net.y < height)

-- If a text reads as a table, the table's cells lie in the box.
pub record HasCellsInside (width height : ℕ) (ports : Ports) : Type 0 where
  pub ins : AllByRecursion (IsPortInside width height) ports.ins
  pub outs : AllByRecursion (IsPortInside width height) ports.outs
  pub nets : AllByRecursion (IsNetInside width height) ports.nets

abbrev pub HasPortsInside : List ℕ → ℕ → ℕ → Type 0
HasPortsInside text width height =
    (ports : Ports) → ReadsAsPorts text width height ports → HasCellsInside width height ports

-- At most one run of cells covers a cell.
abbrev pub HasOneRun : List ℕ → Type 0
HasOneRun text =
    (x y : ℕ) → length (filter_map (λ p. state_in x y p p.item) (placed_items text)) ≤ 1

-- What a text of extended RLE says: a pattern, or its first fault.
use Rattle.std.specs.Prelude.{◌≡◌, ◌⊎◌, ℕ, ◌+◌, ◌*◌, ◌<◌, ◌≤◌, Bool, true, false, ◌&&◌, not, ◌==◌, nat_lt, nat_le, if◌then◌else◌, List, [], Option, Some, None, get_or, slice_get, take_while, filter_map, is_some, codes, unwrap_or}
use Rattle.std.specs.List.{list_any}
use Rattle.ww_rule.specs.declared.pattern.State.{State}
use Rattle.ww_rule.specs.declared.pattern.State.TheVariants.{Empty}
use Rattle.ww_rule.specs.Grid.{Grid, IsGrid}
use Rattle.pattern_reading.specs.declared.faults.RleFaultKind.{RleFaultKind}
use Rattle.pattern_reading.specs.declared.faults.RleFaultKind.TheVariants.{NoHeader, BadHeader, OtherRule, BadItem, CellOutside, NoEnd}
use Rattle.pattern_reading.specs.Lines.{Line, last_line}
use Rattle.pattern_reading.specs.Numbers.{◌>>=◌, after_word}
use Rattle.pattern_reading.specs.Header.{Header, header_in, header_line, is_wireworld, lines_after_header}
use Rattle.pattern_reading.specs.Items.{Item, Cells, NoItem, LineItem, Placed, is_end, items_of_lines, placed_after}

-- The text has a header without fault, and these are its numbers.
pub record HasBox (text : List ℕ) (width height : ℕ) : Type 0 where
  pub line : Line
  pub first : header_line text ≡ Some line
  pub header : Header
  pub form : header_in line.bytes ≡ Some header
  pub width_is : header.width ≡ width
  pub height_is : header.height ≡ height
  pub rule : is_wireworld header.rule ≡ true

-- the items of the lines after the header, in order
abbrev pub items_after_header : List ℕ → List LineItem
items_after_header text = items_of_lines (lines_after_header text)

-- whether there is an `!` among the items
abbrev pub has_end : List ℕ → Bool
has_end text = list_any (λ i. is_end i.item) (items_after_header text)

-- the items before the first `!`, or all if there is none, at their places; what follows the `!` is
-- ignored
abbrev pub placed_items : List ℕ → List Placed
placed_items text =
    placed_after [] (take_while (λ i. not (is_end i.item)) (items_after_header text))

-- what is at fault in a run of cells: heads, tails and conductors must lie in the box, and empty
-- cells may pass it
abbrev pub run_fault : ℕ → ℕ → Placed → ℕ → State → Option RleFaultKind
run_fault width height p n Empty = None
run_fault width height p n _ =
    if nat_le (p.x + n) width && nat_lt p.y height then None else Some CellOutside

-- what is at fault in an item
abbrev pub item_fault : ℕ → ℕ → Placed → Item → Option RleFaultKind
item_fault width height p NoItem = Some BadItem
item_fault width height p (Cells n state) = run_fault width height p n state
item_fault width height p _ = None

-- a fault and its line
pub record RleFaultAt : Type 0 where
  pub kind : RleFaultKind
  pub line : ℕ

abbrev pub fault_at : ℕ → ℕ → Placed → Option RleFaultAt
fault_at width height p =
    item_fault width height p p.item >>= λ kind. Some (record { kind = kind; line = p.line })

-- the faults of the items before the `!`, in order
abbrev pub item_faults : List ℕ → ℕ → ℕ → List RleFaultAt
item_faults text width height = filter_map (fault_at width height) (placed_items text)

-- the state that an item gives to a cell, if it is a run of cells that covers the cell
abbrev pub state_in : ℕ → ℕ → Placed → Item → Option State
state_in x y p (Cells n state) =
    if p.y == y && nat_le p.x x && nat_lt x (p.x + n) then Some state else None
state_in x y p _ = None

-- the state of a cell: that of the run that covers it, or empty if none does
abbrev pub state_at : List Placed → ℕ → ℕ → State
state_at items x y = unwrap_or (slice_get (filter_map (λ p. state_in x y p p.item) items) 0) Empty

-- The text reads as a pattern: after the lines that are skipped comes a header, and then items
-- without fault, ended by `!`. The pattern has the header's box and the items' cells.
pub record ReadsAsPattern (text : List ℕ) (grid : Grid) : Type 0 where
  pub header : HasBox text grid.width grid.height
  pub no_fault : item_faults text grid.width grid.height ≡ []
  pub ends : has_end text ≡ true
  pub in_rows : IsGrid grid.width grid.height grid.rows
  pub cells : (x y : ℕ) → x < grid.width → y < grid.height
      → get_or (get_or grid.rows y []) x Empty ≡ state_at (placed_items text) x y

-- This fault comes first in the text, and it is on this line. A fault of the header comes before
-- those of the items, which come in the text's order. A box that is too large is no fault of the
-- text, but a limit of the reader.
abbrev pub HasRleFault : List ℕ → RleFaultKind → ℕ → Type 0
-- there is no line to be the header, or it does not begin with `x`, blanks before it aside
HasRleFault text NoHeader line =
    ((header_line text ≡ None) × (line ≡ last_line text))
    ⊎ ((header : Line) × (header_line text ≡ Some header)
    × (after_word (codes "x") header.bytes ≡ None) × (line ≡ header.number))
-- the header has another form
HasRleFault text BadHeader line =
    (header : Line) × (header_line text ≡ Some header)
    × (is_some (after_word (codes "x") header.bytes) ≡ true) × (header_in header.bytes ≡ None)
    × (line ≡ header.number)
-- the header names no rule, or another one
HasRleFault text OtherRule line =
    (header : Line) × (header_line text ≡ Some header) × (parts : Header)
    × (header_in header.bytes ≡ Some parts) × (is_wireworld parts.rule ≡ false)
    × (line ≡ header.number)
-- the first item at fault is no item, or has cells outside the box
HasRleFault text BadItem line =
    (width height : ℕ) × HasBox text width height
    × (slice_get (item_faults text width height) 0 ≡ Some (record { kind = BadItem; line = line }))
HasRleFault text CellOutside line =
    (width height : ℕ) × HasBox text width height
    × (slice_get (item_faults text width height) 0
    ≡ Some (record { kind = CellOutside; line = line }))
-- no item is at fault, and there is no `!`
HasRleFault text NoEnd line =
    (width height : ℕ) × HasBox text width height × (item_faults text width height ≡ [])
    × (has_end text ≡ false) × (line ≡ last_line text)

-- the most cells that a reader takes in the box of a text
abbrev pub most_cells : ℕ
most_cells = 268435456

-- The header is without fault, and its box has more cells than a reader takes, whatever the items
-- are.
abbrev pub HasLargeBox : List ℕ → ℕ → ℕ → Type 0
HasLargeBox text width height = HasBox text width height × (most_cells < width * height)

abbrev pub IsGridTooLarge : List ℕ → Type 0
IsGridTooLarge text = (width height : ℕ) × HasLargeBox text width height

-- The fault with a line that a reader answers: if the box is too large, the reader answers that in
-- place of a fault of the items.
abbrev pub HasReaderFault : List ℕ → RleFaultKind → ℕ → Type 0
HasReaderFault text kind line = HasRleFault text kind line × ¬ (IsGridTooLarge text)

-- The pattern that a reader answers.
abbrev pub ReadsWithinLimit : List ℕ → Grid → Type 0
ReadsWithinLimit text grid = ReadsAsPattern text grid × (grid.width * grid.height ≤ most_cells)

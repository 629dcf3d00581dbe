-- The items of extended RLE, by Golly's description: a run of cells, the end of rows, or the end of
-- the pattern.
use Rattle.std.specs.Prelude.{ℕ, ◌<◌, zero, suc, Bool, true, false, ◌||◌, not, ◌==◌, if◌then◌else◌, List, [], ◌∷◌, map, Option, Some, None, sum_by, take_while, flat_map}
use Rattle.std.specs.Str.{byte}
use Rattle.std.specs.Char.{is_ascii_digit}
use Rattle.ww_rule.specs.declared.pattern.State.{State}
use Rattle.ww_rule.specs.declared.pattern.State.TheVariants.{Empty, Head, Tail, Conductor}
use Rattle.pattern_reading.specs.Lines.{Line}
use Rattle.pattern_reading.specs.Numbers.{is_blank, number_in}
use Rattle.pattern_reading.specs.Header.{is_comment}

-- a byte that is no digit, with the digits directly before it; if a line ends with digits, they are
-- a piece without such a byte
pub record TaggedDigits : Type 0 where
  pub digits : List ℕ
  pub tag : Option ℕ

-- a digit put before the first of these pieces
abbrev pub onto_first_piece : ℕ → List TaggedDigits → List TaggedDigits
onto_first_piece d [] = record { digits = d ∷ []; tag = None } ∷ []
onto_first_piece d (piece ∷ pieces) = record piece { digits = d ∷ piece.digits } ∷ pieces

-- the pieces of a line: each byte that is no digit ends one
abbrev pub pieces_of : List ℕ → List TaggedDigits
pieces_of [] = []
pieces_of (b ∷ bs) =
    let of_rest = pieces_of bs in
    if is_ascii_digit b then onto_first_piece b of_rest
    else record { digits = []; tag = Some b } ∷ of_rest

-- what a piece of a line stands for: one of the three items, or something that is no item
pub data Item : Type 0 where
  -- so many cells of one state
  Cells : ℕ → State → Item
  -- so many ends of rows
  RowEnds : ℕ → Item
  -- the end of the pattern, `!`
  End : Item
  -- a blank between items
  Blank : Item
  -- digits that the end of the text cuts off
  CutOff : Item
  -- anything else, which is no item
  NoItem : Item

-- what a tag with a count stands for: `.` and `b` are empty cells, `A` and `o` heads, `B` tails,
-- `C` conductors, and `$` ends a row
abbrev pub counted_item : ℕ → ℕ → Item
counted_item count tag =
    if tag == byte "." || tag == byte "b" then Cells count Empty
    else if tag == byte "A" || tag == byte "o" then Cells count Head
    else if tag == byte "B" then Cells count Tail
    else if tag == byte "C" then Cells count Conductor
    else if tag == byte "$" then RowEnds count
    else NoItem

-- a count is a number of at least 1
abbrev pub item_with_count : Option ℕ → ℕ → Item
item_with_count None tag = NoItem
item_with_count (Some zero) tag = NoItem
item_with_count (Some (suc n)) tag = counted_item (suc n) tag

-- what a byte without a count stands for: `!` and the blanks take no count, and for other tags it
-- is 1
abbrev pub item_without_count : ℕ → Item
item_without_count tag =
    if tag == byte "!" then End else if is_blank tag then Blank else counted_item 1 tag

-- digits at the end of a line are cut off if the line has no end, since the text ends there
abbrev pub item_in : Bool → List ℕ → Option ℕ → Item
item_in is_ended digits None = if is_ended then NoItem else CutOff
item_in is_ended [] (Some tag) = item_without_count tag
item_in is_ended (d ∷ ds) (Some tag) = item_with_count (number_in (d ∷ ds)) tag

-- an item and the number of its line
pub record LineItem : Type 0 where
  pub line : ℕ
  pub item : Item

-- the items of a line after the header; a comment has none
abbrev pub items_of_line : Line → List LineItem
items_of_line line =
    if is_comment line then [] else map
    (λ piece. record {
      line = line.number;
      item = item_in line.is_ended piece.digits piece.tag;
    }) (pieces_of line.bytes)

abbrev pub items_of_lines : List Line → List LineItem
items_of_lines lines = flat_map items_of_line lines

-- an item at its place: its line, and the column and the row of the cell at which it begins
pub record Placed : Type 0 where
  pub line : ℕ
  pub x : ℕ
  pub y : ℕ
  pub item : Item

abbrev pub cell_count : Item → ℕ
cell_count (Cells n state) = n
cell_count _ = 0

abbrev pub row_end_count : Item → ℕ
row_end_count (RowEnds n) = n
row_end_count _ = 0

abbrev pub is_row_end : Item → Bool
is_row_end (RowEnds n) = true
is_row_end _ = false

abbrev pub is_end : Item → Bool
is_end End = true
is_end _ = false

-- the column at which an item begins: the sum of the counts of cells since the last `$`, by the
-- items before it, the nearest first
abbrev pub column_after : List Item → ℕ
column_after before = sum_by cell_count (take_while (λ item. not (is_row_end item)) before)

-- the row at which an item begins: the sum of the counts of all `$` before it
abbrev pub row_after : List Item → ℕ
row_after before = sum_by row_end_count before

-- the items at their places, if the items of `before` stand before them, the nearest first
abbrev pub placed_after : List Item → List LineItem → List Placed
placed_after before [] = []
placed_after before (i ∷ is) =
    record { line = i.line; x = column_after before; y = row_after before; item = i.item }
    ∷ placed_after (i.item ∷ before) is

-- a count is at least 1
abbrev pub IsCounted : Item → Type 0
IsCounted (Cells n state) = 0 < n
IsCounted (RowEnds n) = 0 < n
IsCounted _ = Unit {0}

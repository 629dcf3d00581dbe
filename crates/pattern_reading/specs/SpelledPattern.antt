-- How a pattern is spelled: a header, and lines of items of which one is `!`.
use Rattle.std.specs.Prelude.{◌≡◌, ◌≢◌, ℕ, ◌<◌, true, false, not, List, [], ◌∷◌, ◌++◌, map, flat_map, take_while, filter_map, get_or, Some, codes, decimal, ◌^◌}
use Rattle.std.specs.Str.{byte}
use Rattle.std.specs.Char.{is_ascii_digit}
use Rattle.std.specs.List.{AllByRecursion, list_all, list_any}
use Rattle.ww_rule.specs.declared.pattern.State.TheVariants.{Empty}
use Rattle.ww_rule.specs.Grid.{Grid, IsGrid}
use Rattle.pattern_reading.specs.Header.{header_in, is_wireworld}
use Rattle.pattern_reading.specs.Items.{Item, Placed, counted_item, is_end, item_in, placed_after}
use Rattle.pattern_reading.specs.Pattern.{ReadsAsPattern, fault_at, state_at}
use Rattle.pattern_reading.specs.Laws.{IsLineText}

-- an item that is written out: the digits of its count, or none if the count is left out, and its
-- tag
pub record SpelledItem : Type 0 where
  pub digits : List ℕ
  pub tag : ℕ

-- the digits are digits, and the tag is a byte that can stand in a line, no digit and no `#`
pub record IsSpelledItem (item : SpelledItem) : Type 0 where
  pub digits : list_all is_ascii_digit item.digits ≡ true
  pub tag : is_ascii_digit item.tag ≡ false
  pub in_line : (item.tag ≢ 10) × (item.tag ≢ 13)
  pub no_comment : item.tag ≢ byte "#"

abbrev pub item_text : SpelledItem → List ℕ
item_text item = item.digits ++ item.tag ∷ []

-- a line of items, and lines with their line ends
abbrev pub line_text : List SpelledItem → List ℕ
line_text items = flat_map item_text items

abbrev pub lines_text : List (List SpelledItem) → List ℕ
lines_text lines = flat_map (λ items. line_text items ++ 10 ∷ []) lines

-- the items for which these lines stand
abbrev pub items_of_text : List (List SpelledItem) → List Item
items_of_text lines =
    flat_map (λ items. map (λ item. item_in true item.digits (Some item.tag)) items) lines

-- the items before the first `!` at their places, on one line
abbrev pub places_of : List Item → List Placed
places_of items =
    placed_after [] (map (λ item. record { line = 0; item = item })
    (take_while (λ item. not (is_end item)) items))

-- The items spell the cells of a grid: none of them is at fault in its box, `!` ends them, and each
-- cell is as they say.
pub record SpellsGrid (items : List Item) (grid : Grid) : Type 0 where
  pub no_fault : filter_map (fault_at grid.width grid.height) (places_of items) ≡ []
  pub ends : list_any is_end items ≡ true
  pub in_rows : IsGrid grid.width grid.height grid.rows
  pub cells : (x y : ℕ) → x < grid.width → y < grid.height
      → get_or (get_or grid.rows y []) x Empty ≡ state_at (places_of items) x y

-- the bytes are a header of the grid's box
abbrev pub IsHeaderOf : List ℕ → Grid → Type 0
IsHeaderOf bytes grid =
    (name : List ℕ) × (header_in bytes
    ≡ Some (record { width = grid.width; height = grid.height; rule = Some name }))
    × (is_wireworld (Some name) ≡ true)

-- A header and lines of items that spell a grid read as that grid, whatever follows, and however
-- the items are cut into lines.
abbrev pub HasSpelledPattern : List ℕ → List (List SpelledItem) → List ℕ → Type 0
HasSpelledPattern header lines rest =
    (grid : Grid) → IsLineText header → IsHeaderOf header grid
    → AllByRecursion (AllByRecursion IsSpelledItem) lines → SpellsGrid (items_of_text lines) grid
    → ReadsAsPattern (header ++ 10 ∷ (lines_text lines ++ rest)) grid

-- the header of a box, with its numbers without leading zeros
abbrev pub spelled_header : ℕ → ℕ → List ℕ
spelled_header width height =
    codes "x = " ++ (decimal width ++ (codes ", y = "
    ++ (decimal height ++ codes ", rule = WireWorld")))

-- If the box's width and height fit 64 bits, the spelled header is a header of the box, and it lies
-- in one line.
abbrev pub HasSpelledHeader : Grid → Type 0
HasSpelledHeader grid =
    grid.width < 2 ^ 64 → grid.height < 2 ^ 64
    → IsLineText (spelled_header grid.width grid.height)
    × IsHeaderOf (spelled_header grid.width grid.height) grid

-- A count of at least 1 that is written without leading zeros is read as that count.
abbrev pub HasSpelledCount : ℕ → ℕ → Type 0
HasSpelledCount count tag =
    count ≢ 0 → count < 2 ^ 64 → (list_all is_ascii_digit (decimal count) ≡ true)
    × (item_in true (decimal count) (Some tag) ≡ counted_item count tag)

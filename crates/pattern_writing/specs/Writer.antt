-- The text of a pattern in extended RLE (cells by run lengths), as Golly's description of its
-- pattern formats gives it for rules of several states, with lines before it that a reader may
-- skip.
use Rattle.std.specs.Prelude.{ℕ, ◌+◌, ◌==◌, nat_le, Bool, if◌then◌else◌, List, [], ◌∷◌, ◌++◌, map, flat_map, length, codes, decimal}
use Rattle.ww_rule.specs.declared.pattern.State.{State}
use Rattle.ww_rule.specs.declared.pattern.State.TheVariants.{Empty, Head, Tail, Conductor}
use Rattle.ww_rule.specs.Grid.{Grid}
pub use Rattle.ww_rule.specs.Patterns.{grid_of}

-- `.` for an empty cell, and `A`, `B`, `C` for the states 1 to 3
abbrev pub tag_of : State → ℕ
tag_of Empty = 46
tag_of Head = 65
tag_of Tail = 66
tag_of Conductor = 67

-- `$` ends a row
abbrev pub row_end : ℕ
row_end = 36

-- y before the tags ys; y is left out if it is x and nothing follows
abbrev pub unless_last : ℕ → ℕ → List ℕ → List ℕ
unless_last x y [] = if x == y then [] else y ∷ []
unless_last x y (z ∷ zs) = y ∷ z ∷ zs

-- the tags without each x at their end
abbrev pub without_end : ℕ → List ℕ → List ℕ
without_end x [] = []
without_end x (y ∷ ys) = unless_last x y (without_end x ys)

-- the cells of a row up to its last one that is not empty, and the row's end
abbrev pub row_tags : List State → List ℕ
row_tags row = without_end (tag_of Empty) (map tag_of row) ++ row_end ∷ []

-- the rows in order up to the last cell that is not empty
abbrev pub grid_tags : List (List State) → List ℕ
grid_tags rows = without_end row_end (flat_map row_tags rows)

-- a tag, and how many of it stand side by side
pub record TagRun : Type 0 where
  pub count : ℕ
  pub tag : ℕ

-- one more tag before items: it makes the first item longer, or becomes an item of its own
abbrev pub with_tag : ℕ → List TagRun → List TagRun
with_tag t [] = record { count = 1; tag = t } ∷ []
with_tag t (i ∷ is) =
    if t == i.tag then record { count = i.count + 1; tag = t } ∷ is
    else record { count = 1; tag = t } ∷ i ∷ is

-- the runs of equal tags, each as long as it can be
abbrev pub runs_of : List ℕ → List TagRun
runs_of [] = []
runs_of (t ∷ ts) = with_tag t (runs_of ts)

-- the digits of a count; a count of 1 is left out
abbrev pub count_text : ℕ → List ℕ
count_text n = if n == 1 then [] else decimal n

-- the count, and the tag
abbrev pub run_text : TagRun → List ℕ
run_text i = count_text i.count ++ i.tag ∷ []

-- the items of the rows, with `!` after them
abbrev pub item_texts : List (List State) → List (List ℕ)
item_texts rows = map run_text (runs_of (grid_tags rows)) ++ codes "!" ∷ []

-- whether an item fits on a line that already has some bytes: a line has at most 70
abbrev pub fits_after : ℕ → List ℕ → Bool
fits_after used item = nat_le (used + length item) 70

-- a line end, if the item does not fit on the line
abbrev pub line_break : ℕ → List ℕ → List ℕ
line_break used item = if fits_after used item then [] else 10 ∷ []

-- how many bytes the item's line has, up to the item's end
abbrev pub used_after : ℕ → List ℕ → ℕ
used_after used item = if fits_after used item then used + length item else length item

-- the items on lines, none of them cut, beginning on a line that already has some bytes
abbrev pub wrapped : ℕ → List (List ℕ) → List ℕ
wrapped used [] = []
wrapped used (item ∷ items) = line_break used item ++ item ++ wrapped (used_after used item) items

-- the line with the size of the box and the rule
abbrev pub header_text : ℕ → ℕ → List ℕ
header_text width height =
    codes "x = " ++ decimal width ++ codes ", y = " ++ decimal height
    ++ codes ", rule = WireWorld\n"

-- lines, each with its line end
abbrev pub ended_lines : List (List ℕ) → List ℕ
ended_lines lines = flat_map (λ line. line ++ 10 ∷ []) lines

-- the writer's text of a box of cells, with lines before it
abbrev pub writer_text : Grid → List (List ℕ) → List ℕ
writer_text grid lines =
    ended_lines lines ++ header_text grid.width grid.height ++ wrapped 0 (item_texts grid.rows)
    ++ 10 ∷ []

-- Patterns that are drawn item by item.
use Rattle.std.specs.Prelude.{ℕ, ◌+◌, ◌-◌, ◌^◌, ◌==◌, min, Bool, true, false, if◌then◌else◌, List, [], ◌∷◌, replicate, get_or, slice_set, Option, Some, None}
use Rattle.ww_rule.specs.declared.pattern.State.{State}
use Rattle.ww_rule.specs.declared.pattern.State.TheVariants.{Empty}
use Rattle.ww_rule.specs.Cuts.{with_run}
use Rattle.pattern_reading.specs.Items.{Item, Cells, RowEnds, LineItem, Placed, is_end}
use Rattle.pattern_reading.specs.Pattern.{RleFaultAt, fault_at}
use Rattle.std.specs.Prelude.{Result, Ok, Err}
use Rattle.rle_read.specs.declared.drawing.Drawing.{Drawing}
use Rattle.rle_read.specs.declared.error.RleFault.{RleFault}
use Rattle.rle_read.specs.declared.draw_text.LineEnd.{LineEnd}
use Rattle.rle_read.specs.declared.draw_text.LineEnd.TheVariants.{OfLine, OfPattern}

-- a box of cells that is drawn: its rows so far, and the column and the row at which the next item
-- begins; a place past the greatest number of 64 bits is kept as the greatest
pub record Drawn : Type 0 where
  pub width : ℕ
  pub height : ℕ
  pub rows : List (List State)
  pub x : ℕ
  pub y : ℕ

abbrev pub drawn_of : Drawing → Drawn
drawn_of d = record { width = d.width; height = d.height; rows = d.rows; x = d.x; y = d.y }

-- a place, or the greatest number if the place is past it
abbrev pub kept : ℕ → ℕ
kept n = min n (2 ^ 64 - 1)

-- the box with empty cells alone
abbrev pub blank_drawing : ℕ → ℕ → Drawn
blank_drawing width height =
    record {
      width = width;
      height = height;
      rows = (if width == 0 then [] else replicate height (replicate width Empty));
      x = 0;
      y = 0;
    }

-- the rows with a run of cells; empty cells change nothing
abbrev pub rows_with : Drawn → ℕ → State → List (List State)
rows_with d n Empty = d.rows
rows_with d n state = slice_set d.rows d.y (with_run (get_or d.rows d.y []) d.x n state)

-- the drawing after an item
abbrev pub drawn_after : Item → Drawn → Drawn
drawn_after (Cells n state) d = record d { rows = rows_with d n state; x = kept (d.x + n) }
drawn_after (RowEnds n) d = record d { x = 0; y = kept (d.y + n) }
drawn_after _ d = d

-- an item at the place of a drawing
abbrev pub place_of : ℕ → Drawn → Item → Placed
place_of line d item = record { line = line; x = d.x; y = d.y; item = item }

-- how far items are drawn: up to an item at fault, up to the end of the pattern, or all of them if
-- there is no end among them
pub data Reached : Type 0 where
  Fault : RleFaultAt → Reached
  Ended : Drawn → Reached
  Open : Drawn → Reached

abbrev pub reached_by : Bool → Option RleFaultAt → Drawn → Item → (Drawn → Reached) → Reached
reached_by true fault d item go_on = Ended d
reached_by false (Some fault) d item go_on = Fault fault
reached_by false None d item go_on = go_on (drawn_after item d)

-- how far these items are drawn
abbrev pub drawn_with : Drawn → List LineItem → Reached
drawn_with d [] = Open d
drawn_with d (i ∷ is) =
    reached_by (is_end i.item) (fault_at d.width d.height (place_of i.line d i.item)) d i.item
    (λ after. drawn_with after is)

abbrev pub rle_fault_of : RleFault → RleFaultAt
rle_fault_of fault = record { kind = fault.kind; line = fault.line }

-- how far the items of a line are drawn, by the line's answer and the drawing after it
abbrev pub reached_of : Result LineEnd RleFault → Drawn → Reached
reached_of (Err fault) d = Fault (rle_fault_of fault)
reached_of (Ok OfPattern) d = Ended d
reached_of (Ok OfLine) d = Open d

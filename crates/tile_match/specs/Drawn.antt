-- Rows of cells that are part of a plan's drawing.
use Rattle.std.specs.Prelude.{ℕ, pos, ◌+◌, ◌*◌, ◌^◌, ◌<◌, ◌≤◌, ◌≡◌, List, [], get_or}
use Rattle.ww_rule.specs.declared.pattern.State.{State}
use Rattle.ww_rule.specs.declared.pattern.State.TheVariants.{Empty}
use Rattle.tile_library.specs.Drawings.{shipped_drawing}
use Rattle.lane_core.specs.declared.plan.Plan.{Plan}
use Rattle.plan_layout.specs.declared.slot.Slot.{Slot}
use Rattle.plan_layout.specs.Slots.{slot_of}
use Rattle.plan_layout.specs.Tape.{drawn_plane, drawn_tiling}

-- what stands in the block of this tile column and this lane of a plan's drawing; `until` is an x
-- in the block, or the one where it ends
pub record IsBlock (plan : Plan) (slot : Slot) (column lane until : ℕ) : Type 0 where
  pub stands : slot_of slot ≡ drawn_tiling plan column lane
  pub begun : 32 * column ≤ until
  pub in_block : until ≤ 32 * column + 32
  pub near : lane < 2 ^ 59

-- the cells from one x up to another are those of row y of the drawing
pub record IsSpanDrawn (plan : Plan) (cells : List State) (y from until : ℕ) : Type 0 where
  pub each : (x : ℕ) → from ≤ x → x < until
      → get_or cells x Empty ≡ drawn_plane shipped_drawing plan (pos x) (pos y)

-- the rows from one y up to another are so, too
pub record IsBoxDrawn (plan : Plan) (rows : List (List State))
    (top bottom from until : ℕ) : Type 0 where
  pub each : (y : ℕ) → top ≤ y → y < bottom → IsSpanDrawn plan (get_or rows y []) y from until

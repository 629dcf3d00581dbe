-- The cells west of a plan, where only its tape lies.
use Rattle.std.specs.Prelude.{ℕ, pos, ◌-◌, ◌*◌, ◌/◌, ◌%◌, ◌<◌, ◌≡◌, ◌==◌, true}
use Rattle.std.specs.List.{list_any}
use Rattle.ww_rule.specs.declared.pattern.State.TheVariants.{Empty}
use Rattle.tile_library.specs.Drawings.{shipped_drawing}
use Rattle.lane_core.specs.declared.plan.Plan.{Plan}
use Rattle.lane_core.specs.Tape.{tape_shift}
use Rattle.plan_layout.specs.Tape.{drawn_plane}
use Rattle.grid_assembly.specs.declared.west.West.{West}
use Rattle.grid_assembly.specs.declared.west.West.TheVariants.{Blank, Wire}

-- west of this x only tiles of the tape stand: it is one tile column west of where the plan's
-- drawing begins
abbrev pub tape_end : Plan → ℕ
tape_end plan = 32 * (tape_shift plan - 1)

-- what a row of cells has west of `tape_end`: empty cells alone, or the wire of an input, which
-- runs along the middle of its lane
abbrev pub IsWest : Plan → ℕ → West → Type 0
IsWest plan y Blank =
    (x : ℕ) → x < tape_end plan → drawn_plane shipped_drawing plan (pos x) (pos y) ≡ Empty
IsWest plan y Wire = (y % 16 ≡ 8) × (list_any (λ input. input == y / 16) plan.ins ≡ true)

use Rattle.std.proofs.Common.{◌≡◌, true, pos, ℕ, ◌+◌, ◌^◌, ◌<◌, get_or}
use Rattle.ww_rule.specs.declared.pattern.State.TheVariants.{Empty}
use Rattle.plan_layout.specs.Tape.{drawn_tiling}
use Rattle.plan_layout.specs.Slots.{slot_of}
use Rattle.tiling.specs.Tiling.{Lit, drawn_slot}
use Rattle.grid_assembly.proofs.rows.fill_row.Given as goal
use Rattle.plan_layout.specs.Tape.{drawn_plane}
use Rattle.tile_library.specs.Drawings.{shipped_drawing}

-- the slot is that of its block, a blank one has no cell in the row, and the cells up to here are written
abbrev pub invariant-loop-i : goal.invariant-loop-i
invariant-loop-i l =
    record {
      block : slot_of l.slot ≡ drawn_tiling l.plan l.column l.lane;
      blank : l.is_blank ≡ true → (edges : Lit) (column lane x : ℕ) → drawn_slot shipped_drawing edges column lane (slot_of l.slot) x l.below ≡ Empty;
      near : l.column < 2 ^ 59;
      cells : (k : ℕ) → k < l.i → get_or l.row k Empty ≡ drawn_plane shipped_drawing l.plan (pos (l.x + k)) (pos l.y);
    }

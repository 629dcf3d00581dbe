-- The runs of a block's row that is kept.
use Rattle.std.specs.Prelude.{ℕ, ◌≡◌, List, get_or, map, take}
use Rattle.plan_layout.specs.declared.slot.Slot.{Slot}
use Rattle.plan_layout.specs.Slots.{slot_of}
use Rattle.pattern_writing.specs.Writer.{tag_of}
use Rattle.rle_write.specs.declared.rows.Run.{Run}
use Rattle.rle_write.specs.declared.block_rows.BlockRow.{BlockRow}
use Rattle.rle_write.specs.Dark.{bare_row}
use Rattle.rle_write.specs.Runs.{spelled}

-- the runs of such a row
abbrev pub runs_in : BlockRow → List Run
runs_in row = take row.found row.runs

-- at this place among the rows that are kept is row y of what stands in a block
abbrev pub IsRowAt : List BlockRow → ℕ → Slot → ℕ → Type 0
IsRowAt rows place slot y =
    (row : BlockRow) → spelled (runs_in (get_or rows place row)) ≡ map tag_of (bare_row (slot_of slot) y)

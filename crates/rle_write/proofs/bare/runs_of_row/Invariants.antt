use Rattle.std.proofs.Common.{◌≡◌, ◌≤◌, ◌-◌, map, take, length, All}
use Rattle.plan_layout.specs.Slots.{slot_of}
use Rattle.pattern_writing.specs.Writer.{tag_of}
use Rattle.rle_write.specs.Dark.{bare_row}
use Rattle.rle_write.specs.Runs.{IsCellRun, spelled}
use Rattle.rle_write.proofs.bare.runs_of_row.Given as goal

abbrev pub invariant-cells : goal.invariant-cells
invariant-cells l = record {
  within : l.x ≤ 32;
  few : l.found ≤ l.x;
  size : length l.runs ≡ length l.initial.runs;
  cells : All IsCellRun (take l.found l.runs);
  spelled : spelled (take l.found l.runs) ≡ map tag_of (take l.x (bare_row (slot_of l.slot) l.y));
}

abbrev pub decreases-cells : goal.decreases-cells
decreases-cells l = 32 - l.x

use Rattle.std.proofs.Common.{◌≡◌, ◌≤◌, ◌*◌, take, All}
use Rattle.rle_write.specs.Blocks.{tags_of_blocks}
use Rattle.rle_write.specs.Runs.{IsCellRun, spelled}
use Rattle.rle_write.proofs.stretches.runs_of_blocks.Given as goal

abbrev pub invariant-loop-i : goal.invariant-loop-i
invariant-loop-i l = record {
  few : l.found ≤ 32 * l.i;
  cells : All IsCellRun (take l.found l.rows.runs);
  runs : spelled (take l.found l.rows.runs) ≡ tags_of_blocks l.blocks l.column l.i l.y;
}

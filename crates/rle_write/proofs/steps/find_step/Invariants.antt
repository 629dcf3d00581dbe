use Rattle.std.proofs.Common.{◌+◌, ◌≤◌, take, drop, length}
use Rattle.rle_write.specs.StepBytes.{bytes_in}
use Rattle.rle_write.specs.Runs.{IsCellTag, spelled}
use Rattle.rle_write.specs.Steps.{IsStep}
use Rattle.rle_write.proofs.steps.find_step.Given as goal

abbrev pub invariant-loop-run : goal.invariant-loop-run
invariant-loop-run l = record {
  step : IsStep l.from (spelled (take l.run-index l.runs)) (bytes_in l.bytes) l.after;
  cell : IsCellTag l.after.tag;
  short : l.after.count + length (spelled (drop l.run-index l.runs)) ≤ l.from.count + length (spelled l.runs);
}

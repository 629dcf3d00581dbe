use Rattle.std.proofs.Common.{◌≤◌, ◌+◌, ◌-◌, ℕ, List, [], ◌++◌, length, replicate}
use Rattle.std.specs.Prelude.{Some}
use Rattle.ww_rule.specs.declared.pattern.State.{State}
use Rattle.rle_write.specs.LapBytes.{bytes_of}
use Rattle.rle_write.specs.Left.{row_left, text_left}
use Rattle.rle_write.specs.Runs.{IsCellTag, repeated, spelled}
use Rattle.ww_base.specs.Pages.{held, column_of}
use Rattle.ww_base.specs.Progress.{Wrote}
use Rattle.rle_write.proofs.laps.find_lap.Given as goal

abbrev pub invariant-loop-before : goal.invariant-loop-before
invariant-loop-before l = record {
  cell : IsCellTag l.now.run.tag;
  short : l.now.run.count + length (repeated (l.most - l.before) (spelled l.runs)) ≤ l.kept.run.count + length (repeated l.most (spelled l.runs));
  wrote : (more : List ℕ) (rows : List (List State)) →
      Wrote (Some (bytes_of l.initial.lap)) (Some (bytes_of l.lap)) l.initial.lap.faults l.lap.faults
      (text_left [] l.column (row_left l.kept.due (replicate l.kept.run.count l.kept.run.tag ++ (repeated l.before (spelled l.runs) ++ more)) rows))
      (text_left (held l.page) (column_of l.page) (row_left l.now.due (replicate l.now.run.count l.now.run.tag ++ more) rows));
}

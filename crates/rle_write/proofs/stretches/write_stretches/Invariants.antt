use Rattle.std.proofs.Common.{◌≤◌, ◌-◌, ◌*◌, List, ◌∷◌, ◌++◌, map, drop, length, replicate}
use Rattle.ww_rule.specs.declared.pattern.State.{State}
use Rattle.grid_assembly.specs.PlanDrawing.{start_row}
use Rattle.pattern_writing.specs.Writer.{tag_of}
use Rattle.rle_write.specs.Runs.{IsCellTag}
use Rattle.rle_write.specs.Left.{rows_left, row_left, text_left}
use Rattle.ww_base.specs.Pages.{held, column_of}
use Rattle.ww_base.specs.Progress.{Wrote}
use Rattle.rle_write.proofs.stretches.write_stretches.Given as goal

abbrev pub invariant-stretches : goal.invariant-stretches
invariant-stretches g l = record {
  within : l.column ≤ length l.blocks;
  fewer : l.kept.due ≤ l.ends;
  short : l.kept.run.count ≤ 32 * l.column;
  cell : IsCellTag l.kept.run.tag;
  wrote : (rows : List (List State)) →
      Wrote (g.O.Sink.written l.initial.sink) (g.O.Sink.written l.sink) (g.O.Sink.faults l.initial.sink) (g.O.Sink.faults l.sink)
      (text_left (held l.initial.page) (column_of l.initial.page) (rows_left l.ends (start_row l.plan l.y ∷ rows)))
      (text_left (held l.page) (column_of l.page)
      (row_left l.kept.due (replicate l.kept.run.count l.kept.run.tag ++ map tag_of (drop (32 * l.column) (start_row l.plan l.y))) rows));
}

abbrev pub decreases-stretches : goal.decreases-stretches
decreases-stretches g l = length l.blocks - l.column

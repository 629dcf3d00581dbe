use Rattle.std.proofs.Common.{◌≡◌, ◌≤◌, ℕ, List, ◌++◌, replicate}
use Rattle.ww_rule.specs.declared.pattern.State.{State}
use Rattle.rle_write.specs.Left.{row_left, text_left}
use Rattle.rle_write.specs.Runs.{repeated, spelled}
use Rattle.ww_base.specs.Pages.{held, column_of}
use Rattle.ww_base.specs.Progress.{Wrote}
use Rattle.rle_write.proofs.laps.add_laps.Given as goal

abbrev pub invariant-laps : goal.invariant-laps
invariant-laps g l = record {
  within : l.left ≤ l.count;
  column : column_of l.page ≡ column_of l.initial.page;
  wrote : (more : List ℕ) (rows : List (List State)) →
      Wrote (g.O.Sink.written l.initial.sink) (g.O.Sink.written l.sink) (g.O.Sink.faults l.initial.sink) (g.O.Sink.faults l.sink)
      (text_left (held l.initial.page) (column_of l.initial.page)
      (row_left l.kept.due (replicate l.kept.run.count l.kept.run.tag ++ (repeated l.count (spelled l.runs) ++ more)) rows))
      (text_left (held l.page) (column_of l.page)
      (row_left l.kept.due (replicate l.kept.run.count l.kept.run.tag ++ (repeated l.left (spelled l.runs) ++ more)) rows));
}

abbrev pub decreases-laps : goal.decreases-laps
decreases-laps g l = l.left

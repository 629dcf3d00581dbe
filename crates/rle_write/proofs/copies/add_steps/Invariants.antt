use Rattle.std.proofs.Common.{◌≤◌, ◌+◌, ◌-◌, ℕ, List, ◌++◌, length, replicate}
use Rattle.ww_rule.specs.declared.pattern.State.{State}
use Rattle.rle_write.specs.Left.{row_left, text_left}
use Rattle.rle_write.specs.Runs.{IsCellTag, repeated, spelled}
use Rattle.ww_base.specs.Pages.{held, column_of}
use Rattle.ww_base.specs.Progress.{Wrote}
use Rattle.rle_write.proofs.copies.add_steps.Given as goal

abbrev pub invariant-loop : goal.invariant-loop
invariant-loop g l = record {
  fewer : l.kept.due ≤ l.initial.kept.due;
  short : l.kept.run.count + length (repeated (l.count - l.counter) (spelled l.runs)) ≤ l.initial.kept.run.count + length (repeated l.count (spelled l.runs));
  cell : IsCellTag l.kept.run.tag;
  wrote : (more : List ℕ) (rows : List (List State)) →
      Wrote (g.O.Sink.written l.initial.sink) (g.O.Sink.written l.sink) (g.O.Sink.faults l.initial.sink) (g.O.Sink.faults l.sink)
      (text_left (held l.initial.page) (column_of l.initial.page)
      (row_left l.initial.kept.due (replicate l.initial.kept.run.count l.initial.kept.run.tag ++ (repeated l.count (spelled l.runs) ++ more)) rows))
      (text_left (held l.page) (column_of l.page)
      (row_left l.kept.due (replicate l.kept.run.count l.kept.run.tag ++ (repeated (l.count - l.counter) (spelled l.runs) ++ more)) rows));
}

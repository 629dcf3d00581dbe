use Rattle.std.proofs.Common.{◌≡◌, ℕ, List, ◌++◌, drop}
use Rattle.port_writing.specs.Lines.{spaced}
use Rattle.ww_base.specs.Pages.{held, column_of}
use Rattle.ww_base.specs.Progress.{Wrote}
use Rattle.port_writing.proofs.table.put_fields.Given as goal

abbrev pub invariant-loop-field : goal.invariant-loop-field
invariant-loop-field g l = record {
  column : column_of l.page ≡ column_of l.initial.page;
  wrote : (rest : List ℕ) →
      Wrote (g.O.Sink.written l.initial.sink) (g.O.Sink.written l.sink) (g.O.Sink.faults l.initial.sink) (g.O.Sink.faults l.sink)
      (held l.initial.page ++ (spaced l.fields ++ rest)) (held l.page ++ (spaced (drop l.field-index l.fields) ++ rest));
}

use Rattle.std.proofs.Common.{◌≡◌, ℕ, List, ◌++◌, drop}
use Rattle.pattern_reading.specs.Spelling.{escaped_name}
use Rattle.ww_base.specs.Pages.{held, column_of}
use Rattle.ww_base.specs.Progress.{Wrote}
use Rattle.port_writing.proofs.names.put_name.Given as goal

abbrev pub invariant-loop-byte : goal.invariant-loop-byte
invariant-loop-byte g l = record {
  column : column_of l.page ≡ column_of l.initial.page;
  wrote : (rest : List ℕ) →
      Wrote (g.O.Sink.written l.initial.sink) (g.O.Sink.written l.sink) (g.O.Sink.faults l.initial.sink) (g.O.Sink.faults l.sink)
      (held l.initial.page ++ (escaped_name l.name ++ rest)) (held l.page ++ (escaped_name (drop l.byte-index l.name) ++ rest));
}

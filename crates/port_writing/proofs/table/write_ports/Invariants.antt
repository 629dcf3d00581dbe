use Rattle.std.proofs.Common.{◌≡◌, ℕ, List, ◌++◌, map, drop}
use Rattle.port_writing.specs.Lines.{port_text}
use Rattle.pattern_writing.specs.Writer.{ended_lines}
use Rattle.ww_base.specs.Pages.{held, column_of}
use Rattle.ww_base.specs.Progress.{Wrote}
use Rattle.port_writing.proofs.table.write_ports.Given as goal

abbrev pub invariant-loop-port : goal.invariant-loop-port
invariant-loop-port g l = record {
  column : column_of l.page ≡ column_of l.initial.page;
  wrote : (rest : List ℕ) →
      Wrote (g.O.Sink.written l.initial.sink) (g.O.Sink.written l.sink) (g.O.Sink.faults l.initial.sink) (g.O.Sink.faults l.sink)
      (held l.initial.page ++ (ended_lines (map (port_text l.kind) l.ports) ++ rest)) (held l.page ++ (ended_lines (map (port_text l.kind) (drop l.port-index l.ports)) ++ rest));
}

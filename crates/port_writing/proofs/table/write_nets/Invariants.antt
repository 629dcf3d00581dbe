use Rattle.std.proofs.Common.{◌≡◌, ℕ, List, ◌++◌, map, drop}
use Rattle.pattern_reading.specs.PortLines.{Net}
use Rattle.pattern_reading.specs.Spelling.{spelled_line}
use Rattle.pattern_writing.specs.Writer.{ended_lines}
use Rattle.ww_base.specs.Pages.{held, column_of}
use Rattle.ww_base.specs.Progress.{Wrote}
use Rattle.port_writing.proofs.table.write_nets.Given as goal

abbrev pub invariant-loop-net : goal.invariant-loop-net
invariant-loop-net g l = record {
  column : column_of l.page ≡ column_of l.initial.page;
  wrote : (rest : List ℕ) →
      Wrote (g.O.Sink.written l.initial.sink) (g.O.Sink.written l.sink) (g.O.Sink.faults l.initial.sink) (g.O.Sink.faults l.sink)
      (held l.initial.page ++ (ended_lines (map (λ net. spelled_line (Net net)) l.nets) ++ rest)) (held l.page ++ (ended_lines (map (λ net. spelled_line (Net net)) (drop l.net-index l.nets)) ++ rest));
}

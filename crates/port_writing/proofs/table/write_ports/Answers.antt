use Rattle.std.proofs.Common.{◌+◌, ℕ, List, ◌++◌, map, drop, ◌∙◌}
use Rattle.port_writing.specs.Lines.{port_text}
use Rattle.pattern_writing.specs.Writer.{ended_lines}
use Rattle.ww_base.specs.Pages.{held}
use Rattle.lists.proofs.Results.{on_err}
use Rattle.ww_base.proofs.Steps.{wrote_then, wrote_broke, wrote_to}
use Rattle.port_writing.proofs.PortLines.{line_next}
use Rattle.port_writing.proofs.table.write_ports.Goals as goal

pub returns-in_err-write_port-clause-err : goal.returns-in_err-write_port-clause-err
returns-in_err-write_port-clause-err g c =
    let f = λ (rest : List ℕ).
    let next = line_next (port_text c.args.kind.now) (held c.loop-port.page) c.args.ports.now c.loop-port.port-index c.port-item.result rest c.loop-port-test.true c.port-item.is in
    wrote_broke (wrote_to next (c.loop-port.invariant.wrote rest)) (c.in_err-write_port.ensures.err (ended_lines (map (port_text c.args.kind.now) (drop (c.loop-port.port-index + 1) c.args.ports.now)) ++ rest)) in
    on_err _ f

pub loop-port-preserved : goal.loop-port-preserved
loop-port-preserved g c = record {
  column = c.write_port.ensures.column ∙ c.loop-port.invariant.column;
  wrote = λ rest.
      let next = line_next (port_text c.args.kind.now) (held c.loop-port.page) c.args.ports.now c.loop-port.port-index c.port-item.result rest c.loop-port-test.true c.port-item.is in
      wrote_then (wrote_to next (c.loop-port.invariant.wrote rest)) (c.in_ok-write_port.ensures.ok (ended_lines (map (port_text c.args.kind.now) (drop (c.loop-port.port-index + 1) c.args.ports.now)) ++ rest));
}

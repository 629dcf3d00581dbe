use Rattle.std.proofs.Common.{◌+◌, ℕ, List, ◌++◌, map, drop, ◌∙◌}
use Rattle.pattern_reading.specs.PortLines.{Net}
use Rattle.pattern_reading.specs.Spelling.{spelled_line}
use Rattle.pattern_writing.specs.Writer.{ended_lines}
use Rattle.ww_base.specs.Pages.{held}
use Rattle.lists.proofs.Results.{on_err}
use Rattle.ww_base.proofs.Steps.{wrote_then, wrote_broke, wrote_to}
use Rattle.port_writing.proofs.PortLines.{line_next}
use Rattle.port_writing.proofs.table.write_nets.Goals as goal

pub returns-in_err-write_net-clause-err : goal.returns-in_err-write_net-clause-err
returns-in_err-write_net-clause-err g c =
    let f = λ (rest : List ℕ).
    let next = line_next (λ net. spelled_line (Net net)) (held c.loop-net.page) c.args.nets.now c.loop-net.net-index c.net-item.result rest c.loop-net-test.true c.net-item.is in
    wrote_broke (wrote_to next (c.loop-net.invariant.wrote rest)) (c.in_err-write_net.ensures.err (ended_lines (map (λ net. spelled_line (Net net)) (drop (c.loop-net.net-index + 1) c.args.nets.now)) ++ rest)) in
    on_err _ f

pub loop-net-preserved : goal.loop-net-preserved
loop-net-preserved g c = record {
  column = c.write_net.ensures.column ∙ c.loop-net.invariant.column;
  wrote = λ rest.
      let next = line_next (λ net. spelled_line (Net net)) (held c.loop-net.page) c.args.nets.now c.loop-net.net-index c.net-item.result rest c.loop-net-test.true c.net-item.is in
      wrote_then (wrote_to next (c.loop-net.invariant.wrote rest)) (c.in_ok-write_net.ensures.ok (ended_lines (map (λ net. spelled_line (Net net)) (drop (c.loop-net.net-index + 1) c.args.nets.now)) ++ rest));
}

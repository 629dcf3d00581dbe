use Rattle.std.proofs.Common.{◌≡◌, ◌∙◌, ap, ◌+◌, ◌*◌, ◌<◌, ◌++◌, ◌∷◌, [], length, arith}
use Rattle.lane_core.specs.Plans.{left_of}
use Rattle.lane_core.specs.Tape.{tape_shift}
use Rattle.plan_ports.proofs.Gathered.{cells_more, names_more}
use Rattle.plan_ports.proofs.table.output_lines.Goals as goal

pub loop-i-preserved : goal.loop-i-preserved
loop-i-preserved c =
    let plan = c.args.plan.now in
    let flat = c.args.flat.now in
    let within : c.loop-i.i < length flat.outs = omega (arith, c.loop-i-test.true, c.len.ensures, c.len-i-end.ensures) in
    let pushed : c.push.new.self.items ≡ c.loop-i.lines.items ++ c.in_ok-port_line.field-0 ∷ [] = c.in_ok-push.ensures.items in
    record {
      cells = cells_more c.loop-i.lines.items c.push.new.self.items c.in_ok-port_line.field-0 (32 * tape_shift plan + left_of plan (length c.args.plan.now.columns)) plan.outs c.loop-i.i pushed
          (omega (arith, within, c.requires.ports.outs)) c.loop-i.invariant.cells (c.in_ok-port_line.ensures.x ∙ ap (λ cell. cell.0) c.out_cell-x.ensures) (c.in_ok-port_line.ensures.y ∙ ap (λ cell. cell.1) c.out_cell-x.ensures);
      names = names_more flat c.loop-i.lines.items c.push.new.self.items c.in_ok-port_line.field-0 flat.outs c.get.result.now c.loop-i.i pushed within c.loop-i.invariant.names c.get.ensures c.in_ok-port_line.ensures.name;
    }

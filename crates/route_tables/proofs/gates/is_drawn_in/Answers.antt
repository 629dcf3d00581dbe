use Rattle.std.proofs.Common.{pos, ◌-◌, ◌∙◌, ap, arith}
use Rattle.tile_timing.specs.Window.{shown}
use Rattle.route_tables.proofs.Planes.{drawn_in}
use Rattle.route_tables.proofs.gates.is_drawn_in.Goals as goal

pub returns : goal.returns
returns c = λ t.
    let gate = c.args.gate.now in
    drawn_in c.args.drawing.now gate c.args.cell.0 c.args.cell.1 (omega arith) (omega arith) (λ e. c.is_empty.ensures.full c.if-is_empty.false (c.state_at.ensures ∙ ap (λ cells. shown cells c.args.drawing.now.width (pos (c.args.cell.0 - gate.x)) (pos (c.args.cell.1 - gate.y))) c.as_slice.ensures ∙ e))

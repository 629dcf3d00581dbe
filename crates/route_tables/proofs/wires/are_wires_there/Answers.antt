use Rattle.std.proofs.Common.{below_more, subst}
use Rattle.route_tables.specs.Cells.{IsWireThere}
use Rattle.route_tables.proofs.wires.are_wires_there.Goals as goal

pub loop-w-preserved : goal.loop-w-preserved
loop-w-preserved c =
    below_more _ _ c.loop-w.invariant (subst (IsWireThere c.args.tables.now c.loop-w.w) c.wire-wire.ensures c.in_ok-is_wire_there.ensures)

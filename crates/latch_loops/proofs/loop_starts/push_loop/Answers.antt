use Rattle.std.proofs.Common.{◌≡◌, get_or, []}
use Rattle.lane_core.specs.Instrs.{bit_on}
use Rattle.plan_layout.specs.Edges.{as_edge}
use Rattle.latch_loops.proofs.Near.{bit_is, one_more}
use Rattle.latch_loops.proofs.loop_starts.push_loop.Goals as goal

pub loop-bits-preserved : goal.loop-bits-preserved
loop-bits-preserved c =
    let bit : c.get.result.now ≡ bit_on (get_or c.args.starts.now c.loop-bits.bits-index []) c.args.number =
    bit_is c.args.starts.now c.loop-bits.bits-index c.args.number _ c.get.result.now c.loop-bits-test.true c.bits-item.is c.get.ensures in
    one_more c.args.plan.now c.args.starts.now c.args.number c.args.found.now.items c.loop-bits.found.items c.push_if.new.found.items (as_edge c.loop-bits.edge) (as_edge c.tile_before-edge.result) c.edge_name.result c.get.result.now c.loop-bits.bits-index
    c.loop-bits.invariant c.edge_name.ensures bit c.in_ok-push_if.ensures c.tile_before-edge.ensures

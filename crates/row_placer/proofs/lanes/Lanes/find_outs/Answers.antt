use Rattle.std.proofs.Common.{sym, ap, subst, ◌<◌, length, arith}
use Rattle.std.proofs.lemmas.List.{length_push}
use Rattle.std.proofs.lemmas.Option.{get_or_from_slice_get}
use Rattle.row_placer.specs.Placed.{AreOuts}
use Rattle.row_placer.proofs.Ports.{port_has, outs_more}
use Rattle.row_placer.proofs.lanes.Lanes.find_outs.Goals as goal

pub find-lane-requires : goal.find-lane-requires
find-lane-requires c =
    let job = c.args.self.now.job in
    let less : c.loop-port.port < length job.ports = omega (arith, c.loop-port-test.true, c.len.ensures) in
    port_has job (length job.ports) c.loop-port.port c.get-value.result.now c.args.self.now.tags.items c.requires.held less c.get-value.ensures

pub loop-port-preserved : goal.loop-port-preserved
loop-port-preserved c =
    let job = c.args.self.now.job in
    let i = c.loop-port.invariant in
    let less : c.loop-port.port < length job.ports = omega (arith, c.loop-port-test.true, c.len.ensures) in
    let outs = c.loop-port.outs.items in (
      subst (AreOuts job c.args.loops c.args.self.now.tags.items) (sym c.in_ok-push.ensures.items)
          (outs_more job c.args.loops c.loop-port.port c.get-value.result.now c.find-lane.result c.args.self.now.tags.items outs i.0 i.1
          (get_or_from_slice_get job.ports c.loop-port.port c.get-value.result.now 0 c.get-value.ensures) c.find-lane.ensures.within c.find-lane.ensures.here),
      omega (arith, ap length c.in_ok-push.ensures.items, length_push outs c.find-lane.result, i.1),
      omega (arith, less),
    )

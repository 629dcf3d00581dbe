use Rattle.std.proofs.Common.{◌≡◌, ◌∙◌, ap, subst, ◌-◌, ◌<◌, length, arith}
use Rattle.std.proofs.lemmas.Result.{err_from_is_err_and}
use Rattle.std.specs.Prelude.{slice_get, Some}
use Rattle.std.proofs.lemmas.Option.{get_or_from_slice_get}
use Rattle.row_placer.specs.declared.job.Job.{Job}
use Rattle.row_placer.proofs.Carry.{kept_on, adds_one}
use Rattle.row_placer.proofs.Ports.{port_has, settled_more, same_held}
use Rattle.row_placer.proofs.lanes.Lanes.bring_loops.Goals as goal

pub find-lane-requires : goal.find-lane-requires
find-lane-requires c =
    let i = c.loop-port.invariant in
    let job = c.args.self.now.job in
    let less : c.loop-port.port < length job.ports = omega (arith, c.loop-port-test.true, c.requires.loops) in
    port_has job (length job.ports) c.loop-port.port c.get-value.result.now c.loop-port.self.tags.items i.held less
    (subst (λ (j : Job). slice_get j.ports c.loop-port.port ≡ Some c.get-value.result.now) i.kept.job c.get-value.ensures)

pub returns-in_err-bring : goal.returns-in_err-bring
returns-in_err-bring c =
    let p = (err_from_is_err_and c.from_residual.result c.from_residual.ensures.1).1 in
    record { held = rw p tt; settled = rw p tt; adds = rw p tt; kept = kept_on c.args.self.now c.loop-port.self c.bring.new.self c.loop-port.invariant.kept c.bring.ensures.kept }

pub loop-port-preserved : goal.loop-port-preserved
loop-port-preserved c =
    let s = c.loop-port.self in
    let i = c.loop-port.invariant in
    let job = c.args.self.now.job in
    let e = c.in_ok-bring.ensures in
    let got = subst (λ (j : Job). slice_get j.ports c.loop-port.port ≡ Some c.get-value.result.now) i.kept.job c.get-value.ensures in
    let room : c.loop-port.port < length s.tags.items = omega (arith, c.loop-port-test.true, c.requires.lanes, i.adds.long) in
    let wide = c.len.ensures ∙ s.tags.ok.0 in
    record {
      settled = settled_more job c.loop-port.port c.get-value.result.now s.tags.items c.bring.new.self.tags.items c.find-lane.result (c.len.result - 1 - c.loop-port.port) i.settled
          (get_or_from_slice_get job.ports c.loop-port.port c.get-value.result.now 0 got) c.find-lane.ensures.within c.find-lane.ensures.here (ap (λ n. n - 1 - c.loop-port.port) wide) room e.moved.long e.moved.lanes;
      held = same_held job (length job.ports) s.tags.items c.bring.new.self.tags.items e.moved.same i.held;
      adds = adds_one c.args.self.now s c.bring.new.self c.loop-port.port i.adds
          (record { long = e.moved.long; count = omega (arith, e.moved.count, wide, c.find-lane.ensures.within) });
      within = omega (arith, c.loop-port-test.true);
      kept = kept_on c.args.self.now s c.bring.new.self i.kept e.kept;
    }

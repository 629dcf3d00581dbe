use Rattle.std.proofs.Common.{◌≡◌, ap, subst, ◌<◌, length, arith}
use Rattle.std.proofs.lemmas.Result.{err_from_is_err_and}
use Rattle.std.specs.Prelude.{slice_get, Some}
use Rattle.row_placer.specs.declared.job.Job.{Job}
use Rattle.row_placer.specs.Ready.{HoldPorts}
use Rattle.row_placer.proofs.Carry.{kept_on, adds_one}
use Rattle.row_placer.proofs.Ports.{ported, port_used, port_held}
use Rattle.row_placer.proofs.lanes.Lanes.place_ports.Goals as goal

pub use_value-requires-clause-usable : goal.use_value-requires-clause-usable
use_value-requires-clause-usable c =
    let s = c.loop-port.self in
    let i = c.loop-port.invariant in
    let job = c.args.self.now.job in
    let less : c.loop-port.port < length job.ports = omega (arith, c.loop-port-test.true, c.len.ensures, ap (λ (j : Job). length j.ports) i.kept.job) in
    let p = ported job c.loop-port.port c.get-value.result.now s.tags.items c.loop-port.left (subst (λ (j : Job). slice_get j.ports c.loop-port.port ≡ Some c.get-value.result.now) i.kept.job c.get-value.ensures) less c.requires.known i.ready in
    p.usable

pub returns-in_err-use_value : goal.returns-in_err-use_value
returns-in_err-use_value c =
    let p = (err_from_is_err_and c.from_residual.result c.from_residual.ensures.1).1 in
    record { held = rw p tt; adds = rw p tt; kept = kept_on c.args.self.now c.loop-port.self c.use_value.new.self c.loop-port.invariant.kept c.use_value.ensures.kept }

pub loop-port-preserved : goal.loop-port-preserved
loop-port-preserved c =
    let s = c.loop-port.self in
    let i = c.loop-port.invariant in
    let job = c.args.self.now.job in
    let less : c.loop-port.port < length job.ports = omega (arith, c.loop-port-test.true, c.len.ensures, ap (λ (j : Job). length j.ports) i.kept.job) in
    let p = ported job c.loop-port.port c.get-value.result.now s.tags.items c.loop-port.left (subst (λ (j : Job). slice_get j.ports c.loop-port.port ≡ Some c.get-value.result.now) i.kept.job c.get-value.ensures) less c.requires.known i.ready in
    let e = c.in_ok-use_value.ensures in
    record {
      ready = port_used job c.loop-port.port c.get-value.result.now s.tags.items c.use_value.new.self.tags.items c.loop-port.left c.use_value.new.left p e.exchanged e.left;
      held = port_held job c.loop-port.port c.get-value.result.now s.tags.items c.use_value.new.self.tags.items c.loop-port.left p e.exchanged i.held;
      adds = adds_one c.args.self.now s c.use_value.new.self c.loop-port.port i.adds e.adds;
      within = omega (arith, less);
      kept = kept_on c.args.self.now s c.use_value.new.self i.kept e.kept;
    }

pub returns-clause-held : goal.returns-clause-held
returns-clause-held c =
    let i = c.loop-port.invariant in
    let same : c.loop-port.port ≡ length c.args.self.now.job.ports = omega (arith, c.loop-port-test.false, c.len.ensures, ap (λ (j : Job). length j.ports) i.kept.job, i.within) in
    subst (λ n. HoldPorts c.args.self.now.job n c.loop-port.self.tags.items) same i.held

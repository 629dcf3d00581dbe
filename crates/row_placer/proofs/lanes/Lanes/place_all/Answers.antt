use Rattle.std.proofs.Common.{◌≡◌, sym, ◌∙◌, ap, subst, ◌≤◌, length, rules, arith}
use Rattle.row_placer.specs.declared.job.Job.{Job}
use Rattle.row_placer.specs.Ready.{ReadyForGate, ReadyForPort, HoldPorts, AreSettled, ArePortsKnown}
use Rattle.row_placer.proofs.lanes.Lanes.place_all.Goals as goal

pub place_gates-requires : goal.place_gates-requires
place_gates-requires c =
    let r = c.requires.ready in
    record {
      none = c.requires.start.made;
      ready = subst (λ tags. ReadyForGate c.args.self.now.job 0 tags c.args.left.now) (sym c.requires.start.tags) r.ready;
      wide = r.wide;
    }

pub place_ports-requires : goal.place_ports-requires
place_ports-requires c =
    let gates = c.in_ok-place_gates.ensures in
    let new = c.place_gates.new.self in
    record {
      ready = subst (λ (b : Job). ReadyForPort b 0 new.tags.items c.place_gates.new.left) (sym gates.job) gates.ready;
      known = subst ArePortsKnown (sym gates.job) c.requires.ready.known;
    }

pub settle_loops-requires : goal.settle_loops-requires
settle_loops-requires c =
    let r = c.requires.ready in
    let gates = c.in_ok-place_gates.ensures in
    let ports = c.in_ok-place_ports.ensures in
    let begun : c.place_ports.new.self.job ≡ c.args.self.now.job = ports.kept.job ∙ gates.job in
    record {
      loops = subst (λ (j : Job). c.args.loops ≤ length j.ports) (sym begun) r.among_ports;
      lanes = omega (arith, r.room, ports.adds.long, gates.adds.long, ap length c.requires.start.tags);
      held = subst (λ (b : Job). HoldPorts b (length b.ports) c.place_ports.new.self.tags.items) (sym ports.kept.job) ports.held;
    }

pub returns : goal.returns
returns c =
    let gates = c.in_ok-place_gates.ensures in
    let ports = c.in_ok-place_ports.ensures in
    let loops = c.in_ok-settle_loops.ensures in
    let begun : c.place_ports.new.self.job ≡ c.args.self.now.job = ports.kept.job ∙ gates.job in
    let wide : length c.args.self.now.tags.items ≡ length c.args.self.now.job.start = ap length c.requires.start.tags in
    record {
      job_is = loops.kept.job ∙ begun;
      long = loops.adds.long ∙ ports.adds.long ∙ gates.adds.long ∙ wide;
      made = ap length (loops.kept.made ∙ ports.kept.made) ∙ gates.made;
      held = subst (λ (j : Job). HoldPorts j (length j.ports) c.settle_loops.new.self.tags.items) begun loops.held;
      settled = subst (λ (j : Job). AreSettled j c.args.loops c.settle_loops.new.self.tags.items) begun loops.settled;
      count = search rules;
    }

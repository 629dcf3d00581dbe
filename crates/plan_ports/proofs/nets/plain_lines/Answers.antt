use Rattle.std.proofs.Common.{◌≡◌, ◌∙◌, sym, ap, subst, ◌+◌, ◌<◌, length, get_or, not, true, arith, List, Vec, Global}
use Rattle.lane_core.specs.Plans.{net_cell_of}
use Rattle.lane_core.specs.Tape.{tape_shift, moved_east}
use Rattle.netlist_core.specs.declared.flat.Net.{Net as FlatNet}
use Rattle.netlist_core.specs.declared.flat.Flat.{Flat}
use Rattle.netlist_meaning.specs.Flat.{is_clock_class}
use Rattle.pattern_reading.specs.declared.ports.NetLine.{NetLine}
use Rattle.plan_ports.proofs.GatheredNets.{is_seen, one_more_there, with_line, without_line, all_lines, AreNetLines}
use Rattle.plan_ports.proofs.nets.plain_lines.Goals as goal
use Rattle.plan_ports.proofs.nets.plain_lines.Goals.{then-not-is_clock_class+in_ok-line+in_ok-push, else-not-is_clock_class}

pub net_line-requires-clause-known : goal.net_line-requires-clause-known
net_line-requires-clause-known c =
    let within : c.loop-net.net-index < length c.args.flat.now.nets = omega (arith, c.loop-net-test.true, ap length c.as_slice-net-items.ensures) in
    let is = c.net-item.is ∙ ap (λ (nets : List FlatNet). get_or nets c.loop-net.net-index c.net-item.result) c.as_slice-net-items.ensures in
    let seen : is_seen c.args.flat.now c.net-item.result ≡ true =
    ap not (ap (λ (flat : Flat). is_clock_class flat c.net-item.result.class) (sym c.in_ok-clocks.ensures) ∙ sym c.is_clock_class.ensures ∙ c.if-not-is_clock_class.true) in
    let there : length c.loop-net.lines.items < length c.args.plan.now.nets =
    one_more_there c.args.flat.now c.args.plan.now c.loop-net.net-index c.loop-net.lines.items c.net-item.result c.requires.many c.loop-net.invariant within is seen in
    omega (arith, there, c.len-then-not-is_clock_class.ensures, c.loop-net.lines.ok)

pub loop-net-preserved : goal.loop-net-preserved
loop-net-preserved c =
    let flat = c.args.flat.now in
    let plan = c.args.plan.now in
    let old = c.loop-net.lines.items in
    let i = c.loop-net.net-index in
    let net = c.net-item.result in
    let within : i < length flat.nets = omega (arith, c.loop-net-test.true, ap length c.as_slice-net-items.ensures) in
    let is = c.net-item.is ∙ ap (λ (nets : List FlatNet). get_or nets i net) c.as_slice-net-items.ensures in
    let same : c.is_clock_class.result ≡ is_clock_class flat net.class = c.is_clock_class.ensures ∙ ap (λ (f : Flat). is_clock_class f net.class) c.in_ok-clocks.ensures in
    elim c.if-not-is_clock_class.branch [
      | then-not-is_clock_class+in_ok-line+in_ok-push w ↦ (
          let seen : is_seen flat net ≡ true = ap not (sym same ∙ w.if-not-is_clock_class.true) in
          let number : w.len-then-not-is_clock_class.result ≡ length old = omega (arith, w.len-then-not-is_clock_class.ensures, c.loop-net.lines.ok) in
          with_line flat plan i old c.if-not-is_clock_class.lines.items w.in_ok-line.line net c.loop-net.invariant within is seen
          (one_more_there flat plan i old net c.requires.many c.loop-net.invariant within is seen)
          (ap (λ (lines : Vec NetLine Global). lines.items) w.lines-is ∙ w.in_ok-push.ensures.items)
          (w.in_ok-line.ensures.cell ∙ ap (λ n. moved_east (tape_shift plan) (net_cell_of plan n)) number) w.in_ok-line.ensures.name w.in_ok-line.ensures.path)
      | else-not-is_clock_class w ↦ subst (λ (lines : List NetLine). AreNetLines flat plan (i + 1) lines) (ap (λ (lines : Vec NetLine Global). lines.items) (sym w.lines-is))
          (without_line flat plan i old net c.loop-net.invariant within is (ap not (sym same ∙ w.if-not-is_clock_class.false)))
    ]

pub returns-clause-cells : goal.returns-clause-cells
returns-clause-cells c =
    all_lines c.args.flat.now c.args.plan.now c.loop-net.lines.items c.requires.many
    (subst (λ n. AreNetLines c.args.flat.now c.args.plan.now n c.loop-net.lines.items) (omega (arith, c.loop-net-test.false, c.loop-net.auto.net-index-end, ap length c.as_slice-net-items.ensures)) c.loop-net.invariant)

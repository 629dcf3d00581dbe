use Rattle.std.proofs.Common.{◌≡◌, ◌<◌, [], ◌+◌, ◌↔◌, Vec, true, true≢false, ◌∙◌, take, length, refl, sym, subst}
use Rattle.netlist_core.specs.declared.model.Port.{Port}
use Rattle.netlist_core.specs.declared.flat.FlatPort.{FlatPort}
use Rattle.netlist_meaning.specs.Nets.{net_at, IsNet, IsControl}
use Rattle.netlist_flatten.specs.Inputs.{AreInputs}
use Rattle.netlist_flatten.proofs.Listing.{item_in, all_at}
use Rattle.netlist_flatten.proofs.Controls.{classes_there, controls_there, number_there, inputs_start, inputs_kept, inputs_left, tells}
use Rattle.netlist_flatten.proofs.ports.inputs_of.Goals as goal
use Rattle.netlist_flatten.proofs.ports.inputs_of.Goals.{then-not-is_control+in_ok-push, else-not-is_control}

pub control_classes-requires-clause-classes : goal.control_classes-requires-clause-classes
control_classes-requires-clause-classes c = classes_there c.args.numbers.now c.args.classes.now c.requires.faultless c.requires.classes

pub control_classes-requires-clause-latches : goal.control_classes-requires-clause-latches
control_classes-requires-clause-latches c = controls_there c.args.numbers.now c.args.classes.now c.args.latches.now c.requires.faultless c.requires.classes c.requires.latches

pub loop-port-init : goal.loop-port-init
loop-port-init c = inputs_start c.args.numbers.now c.new-inputs.result.items c.new-inputs.ensures.items

pub port_of-flat-requires-clause-net : goal.port_of-flat-requires-clause-net
port_of-flat-requires-clause-net c =
    all_at (λ (port : Port). IsNet c.args.numbers.now (net_at [] port.name)) c.args.ports.now c.port-item.result c.requires.nets (item_in c.args.ports.now c.args.ports.now c.loop-port.port-index c.port-item.result refl c.loop-port-test.true c.port-item.is)

pub is_control-requires-clause-port : goal.is_control-requires-clause-port
is_control-requires-clause-port c =
    subst (λ (p : FlatPort). p.net.0 < length c.args.classes.now) (sym c.port_of-flat.ensures)
    (number_there c.args.numbers.now (net_at [] c.port-item.result.name) c.args.classes.now c.requires.faultless
    (all_at (λ (port : Port). IsNet c.args.numbers.now (net_at [] port.name)) c.args.ports.now c.port-item.result c.requires.nets (item_in c.args.ports.now c.args.ports.now c.loop-port.port-index c.port-item.result refl c.loop-port-test.true c.port-item.is)) c.requires.classes)

pub is_control-requires-clause-classes : goal.is_control-requires-clause-classes
is_control-requires-clause-classes c = classes_there c.args.numbers.now c.args.classes.now c.requires.faultless c.requires.classes

is_net : (c : goal.Joined-not-is_control) → IsNet c.args.numbers.now (net_at [] c.port-item.result.name)
is_net c = all_at (λ (port : Port). IsNet c.args.numbers.now (net_at [] port.name)) c.args.ports.now c.port-item.result c.requires.nets (item_in c.args.ports.now c.args.ports.now c.loop-port.port-index c.port-item.result refl c.loop-port-test.true c.port-item.is)

told : (c : goal.Joined-not-is_control) → (c.is_control.result ≡ true) ↔ IsControl c.args.numbers.now (net_at [] c.port-item.result.name)
told c =
    tells c.args.numbers.now c.port-item.result c.port_of-flat.result c.args.classes.now c.args.latches.now c.deref.result.now c.in_ok-marks.marks.items c.is_control.result c.requires.faultless (is_net c) c.requires.classes c.requires.latches
    (c.in_ok-marks.ensures {u = tt}).marked c.deref.ensures.value c.port_of-flat.ensures c.is_control.ensures

pub loop-port-preserved : goal.loop-port-preserved
loop-port-preserved c =
    elim c.if-not-is_control.branch [
      | then-not-is_control+in_ok-push w ↦
          subst (λ (v : Vec FlatPort _). AreInputs c.args.numbers.now (take (c.loop-port.port-index + 1) c.args.ports.now) v.items) (sym w.inputs-is)
          (inputs_kept c.args.numbers.now c.args.ports.now c.loop-port.port-index c.port-item.result c.loop-port.inputs.items _ c.port_of-flat.result c.loop-port-test.true c.port-item.is c.port_of-flat.ensures (w.in_ok-push.ensures {u = tt}).items
          (λ control. true≢false (sym ((told c).1 control) ∙ w.if-not-is_control.true)) c.loop-port.invariant)
      | else-not-is_control w ↦
          subst (λ (v : Vec FlatPort _). AreInputs c.args.numbers.now (take (c.loop-port.port-index + 1) c.args.ports.now) v.items) (sym w.inputs-is)
          (inputs_left c.args.numbers.now c.args.ports.now c.loop-port.port-index c.port-item.result c.loop-port.inputs.items c.loop-port-test.true c.port-item.is ((told c).0 w.if-not-is_control.false) c.loop-port.invariant)
    ]

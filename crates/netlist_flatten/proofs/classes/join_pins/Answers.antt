use Rattle.std.proofs.Common.{◌≡◌, ◌<◌, ◌∙◌, Some, length, ap, arith}
use Rattle.std.proofs.lemmas.Option.{slice_get_within, get_or_from_slice_get}
use Rattle.netlist_meaning.specs.Nets.{net_at}
use Rattle.netlist_core.specs.Names.{Name}
use Rattle.netlist_meaning.specs.InOrder.{nets_at}
use Rattle.netlist_flatten.specs.Numbered.{place_at}
use Rattle.netlist_flatten.proofs.Joining.{joined_start, joined_next, joined_all, free_root, pin_at, formal_there, actual_there, actual_class}
use Rattle.netlist_flatten.proofs.classes.join_pins.Goals as goal

pub loop-pin-init : goal.loop-pin-init
loop-pin-init c = joined_start c.args.numbers.now c.args.at c.args.line.now.pins c.args.own.now c.requires.own

pub position-formal-requires-clause-net : goal.position-formal-requires-clause-net
position-formal-requires-clause-net c =
    formal_there c.args.numbers.now c.args.parent c.args.at c.loop-pin.pin-index c.args.line.now c.pin-item.result c.as_slice.result.now c.requires.faultless c.requires.line
    (pin_at c.as_slice-pin-items.result.now c.args.line.now.pins c.loop-pin.pin-index c.pin-item.result c.as_slice-pin-items.ensures c.loop-pin-test.true c.pin-item.is) c.as_slice.ensures

pub id-actual-requires-clause-net : goal.id-actual-requires-clause-net
id-actual-requires-clause-net c =
    actual_there c.args.numbers.now c.args.parent c.args.at c.loop-pin.pin-index c.args.line.now c.pin-item.result c.as_slice-in-loop-pin.result.now c.requires.faultless c.requires.line
    (pin_at c.as_slice-pin-items.result.now c.args.line.now.pins c.loop-pin.pin-index c.pin-item.result c.as_slice-pin-items.ensures c.loop-pin-test.true c.pin-item.is) c.as_slice-in-loop-pin.ensures

pub bounds-settled-actual : goal.bounds-settled-actual
bounds-settled-actual c =
    slice_get_within c.args.settled.now c.id-actual.result.0 _
    (actual_class c.args.numbers.now c.args.parent c.args.at c.loop-pin.pin-index c.args.line.now c.pin-item.result c.as_slice-in-loop-pin.result.now c.id-actual.result c.args.settled.now c.requires.faultless c.requires.line
    (pin_at c.as_slice-pin-items.result.now c.args.line.now.pins c.loop-pin.pin-index c.pin-item.result c.as_slice-pin-items.ensures c.loop-pin-test.true c.pin-item.is) c.as_slice-in-loop-pin.ensures
    c.requires.earlier c.requires.place c.requires.settled c.id-actual.ensures)

pub bounds-own-formal : goal.bounds-own-formal
bounds-own-formal c =
    let there : c.position-formal.result < length (nets_at c.args.numbers.now (place_at c.args.numbers.now c.args.at)) = slice_get_within _ c.position-formal.result _ c.position-formal.ensures in
    let many : length c.loop-pin.own ≡ length (nets_at c.args.numbers.now (place_at c.args.numbers.now c.args.at)) = c.loop-pin.invariant.many in
    omega arith

pub loop-pin-preserved : goal.loop-pin-preserved
loop-pin-preserved c =
    joined_next c.args.numbers.now c.args.parent c.args.at c.args.line.now c.loop-pin.pin-index c.position-formal.result _ c.pin-item.result c.loop-pin.own c.requires.faultless c.requires.place c.requires.line
    (pin_at c.as_slice-pin-items.result.now c.args.line.now.pins c.loop-pin.pin-index c.pin-item.result c.as_slice-pin-items.ensures c.loop-pin-test.true c.pin-item.is)
    (c.position-formal.ensures ∙ ap (λ (n : Name). Some (net_at (place_at c.args.numbers.now c.args.at) n)) c.as_slice.ensures)
    (get_or_from_slice_get c.args.settled.now c.id-actual.result.0 _ 0
    (actual_class c.args.numbers.now c.args.parent c.args.at c.loop-pin.pin-index c.args.line.now c.pin-item.result c.as_slice-in-loop-pin.result.now c.id-actual.result c.args.settled.now c.requires.faultless c.requires.line
    (pin_at c.as_slice-pin-items.result.now c.args.line.now.pins c.loop-pin.pin-index c.pin-item.result c.as_slice-pin-items.ensures c.loop-pin-test.true c.pin-item.is) c.as_slice-in-loop-pin.ensures
    c.requires.earlier c.requires.place c.requires.settled c.id-actual.ensures))
    c.loop-pin.invariant

pub returns : goal.returns
returns c =
    joined_all c.args.numbers.now c.args.at c.args.line.now.pins c.loop-pin.pin-index c.loop-pin.own c.requires.place (let h : length c.as_slice-pin-items.result.now ≡ length c.args.line.now.pins = ap length c.as_slice-pin-items.ensures in omega (arith, c.loop-pin-test.false)) c.loop-pin.invariant
    (λ name free. free_root c.args.numbers.now c.args.parent c.args.at c.args.line.now name c.requires.faultless c.requires.line free)

use Rattle.std.proofs.Common.{◌≡◌, ap, subst, length, arith}
use Rattle.std.specs.Option.{option_copied}
use Rattle.netlist_core.specs.Names.{model_named}
use Rattle.netlist_rules.specs.Drivers.{actuals_on}
use Rattle.model_words.specs.Words.{word_ports}
use Rattle.model_words.specs.Placed.{ArePlacedNames, ArePlain}
use Rattle.net_faults.specs.Pins.{is_pin_of}
use Rattle.net_faults.proofs.Pushed.{flat_more}
use Rattle.net_faults.proofs.pins.push_actuals.Goals as goal

pub loop-subckt-preserved : goal.loop-subckt-preserved
loop-subckt-preserved c = λ models knows.
    let subckt = c.subckt-item.result in
    let placing : ¬ ArePlain models = λ plain. (let none : length c.args.model.now.subckts ≡ 0 = knows.plain plain in let same : c.as_slice-subckt-items.result.now ≡ c.args.model.now.subckts = c.as_slice-subckt-items.ensures in absurd (let many : length c.as_slice-subckt-items.result.now ≡ length c.args.model.now.subckts = ap length same in omega arith)) in
    flat_more (actuals_on models (is_pin_of c.args.kind)) (word_ports c.args.words.now.items) (word_ports c.loop-subckt.words.items) (word_ports c.push_pins.new.words.items) c.as_slice-subckt-items.result.now c.loop-subckt.subckt-index subckt (omega arith) c.subckt-item.is
    (c.loop-subckt.invariant models knows)
    (c.in_ok-push_pins.ensures (model_named models subckt.model) (subst (λ name. ArePlacedNames (model_named models name) (option_copied c.find.result)) c.as_slice.ensures (c.find.ensures models knows.ports placing)))

use Rattle.std.proofs.Common.{ap, arith}
use Rattle.lists.proofs.Cuts.{added_more}
use Rattle.netlist_core.specs.Names.{at_line}
use Rattle.netlist_core.specs.declared.model.Pin.{Pin}
use Rattle.design_walks.specs.Words.{as_ports}
use Rattle.design_walks.proofs.words.push_subckt.Goals as goal

pub loop-pin-preserved : goal.loop-pin-preserved
loop-pin-preserved c =
    let word = λ (pin : Pin). at_line c.args.line.now.line pin.actual in
    let pin = c.pin-item.result in
    added_more word (as_ports c.args.words.now.items) (as_ports c.loop-pin.words.items) (as_ports c.push_name.new.words.items) c.as_slice-pin-items.result.now c.loop-pin.pin-index pin (word pin) (omega arith)
    c.in_ok-push_name.ensures (ap word c.pin-item.is) c.loop-pin.invariant

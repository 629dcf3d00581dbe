use Rattle.std.proofs.Common.{[], refl, ◌∙◌, ap, map}
use Rattle.std.proofs.lemmas.List.{take_all}
use Rattle.lists.proofs.Cuts.{added_more}
use Rattle.netlist_core.specs.declared.model.Port.{Port}
use Rattle.netlist_meaning.specs.Nets.{net_at, IsNet}
use Rattle.netlist_flatten.proofs.Listing.{item_in, all_at}
use Rattle.netlist_meaning.specs.FlatOf.{flat_port}
use Rattle.netlist_flatten.proofs.ports.ports_of.Goals as goal

pub port_of-requires-clause-net : goal.port_of-requires-clause-net
port_of-requires-clause-net c =
    all_at (λ (port : Port). IsNet c.args.numbers.now (net_at [] port.name)) c.args.ports.now c.port-item.result c.requires.nets (item_in c.args.ports.now c.args.ports.now c.loop-port.port-index c.port-item.result refl c.loop-port-test.true c.port-item.is)

pub loop-port-preserved : goal.loop-port-preserved
loop-port-preserved c =
    let flat = flat_port c.args.numbers.now in
    added_more flat [] c.loop-port.flat.items c.push.new.self.items c.args.ports.now c.loop-port.port-index c.port-item.result c.port_of.result c.loop-port-test.true (c.in_ok-push.ensures {u = tt}).items
    (c.port_of.ensures ∙ ap flat c.port-item.is) c.loop-port.invariant

pub returns : goal.returns
returns c = c.loop-port.invariant ∙ ap (map (flat_port c.args.numbers.now)) (take_all c.loop-port.port-index c.args.ports.now c.loop-port-test.false)

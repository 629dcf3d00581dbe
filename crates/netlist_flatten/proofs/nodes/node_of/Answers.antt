use Rattle.netlist_flatten.specs.Numbered.{place_at}
use Rattle.netlist_flatten.proofs.Listing.{input_nets, output_net}
use Rattle.netlist_flatten.proofs.nodes.node_of.Goals as goal

pub ids_of-requires-clause-nets : goal.ids_of-requires-clause-nets
ids_of-requires-clause-nets c = input_nets c.args.numbers.now (place_at c.args.numbers.now c.args.at) c.args.cover.now c.as_slice.result.now c.requires.nets c.as_slice.ensures

pub id-requires-clause-net : goal.id-requires-clause-net
id-requires-clause-net c = output_net c.args.numbers.now (place_at c.args.numbers.now c.args.at) c.args.cover.now c.as_slice-2.result.now c.requires.nets c.as_slice-2.ensures

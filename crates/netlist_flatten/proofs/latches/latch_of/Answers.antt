use Rattle.netlist_flatten.specs.Numbered.{place_at}
use Rattle.netlist_flatten.proofs.Listing.{latch_input, latch_output, latch_control}
use Rattle.netlist_flatten.proofs.latches.latch_of.Goals as goal

pub id-requires-clause-net : goal.id-requires-clause-net
id-requires-clause-net c = latch_control c.args.numbers.now (place_at c.args.numbers.now c.args.at) c.args.latch.now c.in-Some.name c.as_slice.result.now c.requires.nets c.in-Some.is c.as_slice.ensures

pub id-requires-2-clause-net : goal.id-requires-2-clause-net
id-requires-2-clause-net c = latch_input c.args.numbers.now (place_at c.args.numbers.now c.args.at) c.args.latch.now c.as_slice-2.result.now c.requires.nets c.as_slice-2.ensures

pub id-requires-3-clause-net : goal.id-requires-3-clause-net
id-requires-3-clause-net c = latch_output c.args.numbers.now (place_at c.args.numbers.now c.args.at) c.args.latch.now c.as_slice-3.result.now c.requires.nets c.as_slice-3.ensures

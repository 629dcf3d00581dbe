use Rattle.std.proofs.Common.{refl, ◌∙◌, ap, [], map}
use Rattle.std.proofs.lemmas.List.{take_all}
use Rattle.lists.proofs.Cuts.{added_more}
use Rattle.netlist_flatten.specs.Numbered.{place_at}
use Rattle.netlist_flatten.proofs.Listing.{item_in, name_net}
use Rattle.netlist_meaning.specs.FlatOf.{id_of}
use Rattle.netlist_flatten.proofs.nodes.ids_of.Goals as goal

pub id-requires-clause-net : goal.id-requires-clause-net
id-requires-clause-net c =
    name_net c.args.numbers.now (place_at c.args.numbers.now c.args.at) c.args.names.now c.name-item.result c.as_slice.result.now c.requires.nets (item_in c.args.names.now c.args.names.now c.loop-name.name-index c.name-item.result refl c.loop-name-test.true c.name-item.is) c.as_slice.ensures

pub loop-name-preserved : goal.loop-name-preserved
loop-name-preserved c =
    let id = id_of c.args.numbers.now (place_at c.args.numbers.now c.args.at) in
    added_more id [] c.loop-name.ids.items c.push.new.self.items c.args.names.now c.loop-name.name-index c.name-item.result c.id.result c.loop-name-test.true (c.in_ok-push.ensures {u = tt}).items
    (c.id.ensures ∙ ap id (c.as_slice.ensures ∙ c.name-item.is)) c.loop-name.invariant

pub returns : goal.returns
returns c = c.loop-name.invariant ∙ ap (map (id_of c.args.numbers.now (place_at c.args.numbers.now c.args.at))) (take_all c.loop-name.name-index c.args.names.now c.loop-name-test.false)

use Rattle.std.proofs.Common.{◌≡◌, ◌+◌, ◌∙◌, [], ◌++◌, length, map, sym, ap, arith}
use denote.Ref.{Bor}
use Rattle.std.proofs.lemmas.Option.{slice_get_within, get_or_from_slice_get}
use Rattle.std.proofs.lemmas.List.{take_all}
use Rattle.std.proofs.lemmas.Simd.{map-map}
use Rattle.netlist_core.specs.Names.{Name}
use Rattle.netlist_meaning.specs.Nets.{net_at}
use Rattle.netlist_meaning.specs.FlatOf.{flat_net}
use Rattle.netlist_flatten.specs.Numbered.{place_at, nets_before}
use Rattle.lists.proofs.Cuts.{added_more}
use Rattle.netlist_flatten.proofs.Joining.{net_of_item, class_of_item, net_is}
use Rattle.netlist_flatten.proofs.nets.push_nets.Goals as goal

pub bounds-classes-number : goal.bounds-classes-number
bounds-classes-number c =
    let some : Bor Name = record { ref_ptr = (0, 0); now = [] } in
    slice_get_within c.args.classes.now c.loop-name.number _
    (class_of_item c.args.numbers.now c.args.at c.loop-name.name-index c.loop-name.number _ c.args.classes.now c.requires.place
    (net_of_item c.args.numbers.now c.args.at c.loop-name.name-index c.names-name-items.result.now some c.names-name-items.ensures c.loop-name-test.true) c.loop-name.invariant.number c.requires.classes)

pub loop-name-preserved : goal.loop-name-preserved
loop-name-preserved c = record {
  number = (let is : c.loop-name.number ≡ length (nets_before c.args.numbers.now c.args.at) + c.loop-name.name-index = c.loop-name.invariant.number in omega arith);
  nets = added_more (λ (name : Bor Name). flat_net c.args.numbers.now (net_at (place_at c.args.numbers.now c.args.at) name.now)) c.args.nets.now.items c.loop-name.nets.items c.push.new.self.items c.names-name-items.result.now c.loop-name.name-index _ _ c.loop-name-test.true
      (c.in_ok-push.ensures {u = tt}).items
      (net_is c.args.numbers.now c.args.at c.place.result.now _ _ _ (c.in_ok-net_of.ensures {u = tt}) c.place.ensures
      (get_or_from_slice_get c.args.classes.now c.loop-name.number _ 0
      (class_of_item c.args.numbers.now c.args.at c.loop-name.name-index c.loop-name.number _ c.args.classes.now c.requires.place
      (net_of_item c.args.numbers.now c.args.at c.loop-name.name-index c.names-name-items.result.now _ c.names-name-items.ensures c.loop-name-test.true) c.loop-name.invariant.number c.requires.classes)))
      c.loop-name.invariant.nets;
}

pub returns : goal.returns
returns c =
    let items = c.names-name-items.result.now in
    c.loop-name.invariant.nets
    ∙ ap (λ rest. c.args.nets.now.items ++ rest)
    (ap (map (λ (name : Bor Name). flat_net c.args.numbers.now (net_at (place_at c.args.numbers.now c.args.at) name.now))) (take_all c.loop-name.name-index items c.loop-name-test.false)
    ∙ sym (map-map (flat_net c.args.numbers.now) (λ (name : Bor Name). net_at (place_at c.args.numbers.now c.args.at) name.now) items)
    ∙ sym (ap (map (flat_net c.args.numbers.now)) c.names-name-items.ensures))

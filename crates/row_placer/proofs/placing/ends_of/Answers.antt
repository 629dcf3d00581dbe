use Rattle.std.proofs.Common.{sym, ◌∙◌, ap, subst, map}
use Rattle.row_placer.specs.Placed.{HavePlaces, net_place_of}
use Rattle.row_placer.proofs.Sound.{sound}
use Rattle.row_placer.proofs.placing.ends_of.Goals as goal

pub find_outs-requires-clause-loops : goal.find_outs-requires-clause-loops
find_outs-requires-clause-loops c = c.requires.ports

pub find_outs-requires-clause-held : goal.find_outs-requires-clause-held
find_outs-requires-clause-held c = c.requires.held

pub places_of-requires : goal.places_of-requires
places_of-requires c = record {
  loops = c.requires.loops;
  sound = sound c.args.list.now;
  places = subst (HavePlaces c.args.list.now c.args.homes.now) (sym c.deref.ensures.value) c.requires.places;
  zero = c.requires.zero;
}

pub returns-clause-nets : goal.returns-clause-nets
returns-clause-nets c =
    let list = c.args.list.now in
    c.in_ok-nets.ensures ∙ ap (λ ms. map (net_place_of list c.args.homes.now ms) list.nets) c.deref.ensures.value

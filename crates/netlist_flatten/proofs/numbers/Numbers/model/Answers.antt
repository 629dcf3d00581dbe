use Rattle.std.proofs.Common.{◌∙◌, sym, ap, slice_get}
use Rattle.netlist_core.specs.declared.model.Design.{Design}
use Rattle.netlist_flatten.proofs.Numbering.{place_held}
use Rattle.netlist_flatten.proofs.numbers.Numbers.model.Goals as goal

pub get-requires-2 : goal.get-requires-2
get-requires-2 c = (c.self.invariant.are_places.models c.args.at c.get.result.now c.get.ensures).is_there

pub returns : goal.returns
returns c =
    let h = place_held c.args.self.now c.self.inside.design.now c.self.inside.placed c.self.inside.names c.self.inside.firsts c.args.at c.get.result.now c.self.view_is c.self.invariant c.get.ensures in
    h.is_placed ∙ sym h.is_model ∙ ap (λ (d : Design). slice_get d.models c.get.result.now.model) (sym c.self.view_is) ∙ c.get-2.ensures

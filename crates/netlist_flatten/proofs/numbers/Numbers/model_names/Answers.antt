use Rattle.std.proofs.Common.{◌<◌, ◌∙◌, ap, sym, subst}
use Rattle.std.proofs.lemmas.Option.{same_Some}
use Rattle.netlist_meaning.specs.InOrder.{names_in_order}
use Rattle.netlist_flatten.proofs.Numbering.{place_held, own_names}
use Rattle.netlist_flatten.proofs.numbers.Numbers.model_names.Goals as goal

pub get-requires-2 : goal.get-requires-2
get-requires-2 c = subst (λ n. c.get.result.now.model < n) (sym c.self.invariant.are_names.many) (c.self.invariant.are_places.models c.args.at c.get.result.now c.get.ensures).is_there

pub returns : goal.returns
returns c m e =
    let h = place_held c.args.self.now c.self.inside.design.now c.self.inside.placed c.self.inside.names c.self.inside.firsts c.args.at c.get.result.now c.self.view_is c.self.invariant c.get.ensures in
    same_Some _ _ (sym c.in-Some.is ∙ own_names h c.get-2.result.now c.get-2.ensures) ∙ ap names_in_order (same_Some _ _ (sym h.is_placed ∙ e))

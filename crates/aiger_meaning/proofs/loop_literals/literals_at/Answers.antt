use Rattle.std.proofs.Common.{◌∙◌, sym, ap, ap₂, List, ◌++◌, ◌∷◌, [], ℕ, get_or, map, take}
use Rattle.std.proofs.lemmas.List.{map_more, map_push, take_all}
use Rattle.netlist_core.specs.declared.flat.NetId.{NetId}
use Rattle.lists.specs.Items.{number_at}
use Rattle.std.proofs.lemmas.Result.{err_from_is_err_and}
use Rattle.aiger_meaning.specs.Ids.{net_numbers}
use Rattle.aiger_meaning.specs.Laws.{literal_of_net}
use Rattle.aiger_meaning.proofs.loop_literals.literals_at.Goals as goal

abbrev no_net : NetId
no_net = record { 0 = 0 }

pub returns-in_err-found : goal.returns-in_err-found
returns-in_err-found c = rw ((err_from_is_err_and c.from_residual.result c.from_residual.ensures.1).1) tt

pub returns-in_err-push : goal.returns-in_err-push
returns-in_err-push c = rw ((err_from_is_err_and c.from_residual-in_err-push.result c.from_residual-in_err-push.ensures.1).1) tt

pub loop-net-init : goal.loop-net-init
loop-net-init c = c.in_ok-found.ensures.items

pub returns : goal.returns
returns c =
    c.of.ensures ∙ c.loop-net.invariant
    ∙ ap (λ (nets : List NetId). map (literal_of_net c.args.aig.now) (net_numbers nets)) (take_all c.loop-net.net-index c.args.nets.now c.loop-net-test.false)

pub loop-net-preserved : goal.loop-net-preserved
loop-net-preserved c =
    let literal = literal_of_net c.args.aig.now in
    let net : NetId = get_or c.args.nets.now c.loop-net.net-index no_net in
    c.in_ok-push.ensures.items
    ∙ ap₂ (λ (found : List ℕ) (lit : ℕ). found ++ lit ∷ []) c.loop-net.invariant (c.literal.ensures ∙ ap (λ own. number_at own net.0) c.requires)
    ∙ sym (map_push literal (net_numbers (take c.loop-net.net-index c.args.nets.now)) net.0)
    ∙ ap (map literal) (sym (map_more (λ (id : NetId). id.0) c.args.nets.now c.loop-net.net-index no_net c.loop-net-test.true))

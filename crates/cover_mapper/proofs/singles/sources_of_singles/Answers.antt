use Rattle.std.proofs.Common.{◌≡◌, ◌∙◌, ap, subst, ◌++◌, List, arith}
use Rattle.std.specs.List.{filter_map}
use Rattle.std.specs.Option.{option_to_list}
use Rattle.std.proofs.lemmas.List.{take_all}
use Rattle.std.proofs.lemmas.Result.{err_from_is_err_and}
use Rattle.netlist_core.specs.declared.flat.Node.{Node}
use Rattle.cover_mapper.specs.Singles.{single_source}
use Rattle.cover_mapper.proofs.OneCell.{filtered_more}
use Rattle.cover_mapper.proofs.singles.sources_of_singles.Goals as goal

pub loop-node-init : goal.loop-node-init
loop-node-init c = c.new-found.ensures.items

pub returns-in_err-push_single : goal.returns-in_err-push_single
returns-in_err-push_single c = rw ((err_from_is_err_and c.from_residual.result c.from_residual.ensures.1).1) tt

pub loop-node-preserved : goal.loop-node-preserved
loop-node-preserved c =
    c.in_ok-push_single.ensures ∙ ap (λ (node : Node). c.loop-node.found.items ++ option_to_list (single_source c.args.flat.now c.args.sources.now node)) c.node-item.is
    ∙ filtered_more (single_source c.args.flat.now c.args.sources.now) c.loop-node.found.items c.args.nodes.now c.loop-node.node-index _ (omega (arith, c.loop-node-test.true)) c.loop-node.invariant

pub returns : goal.returns
returns c =
    subst (λ (nodes : List Node). c.loop-node.found.items ≡ filter_map (single_source c.args.flat.now c.args.sources.now) nodes)
    (take_all c.loop-node.node-index c.args.nodes.now (omega (arith, c.loop-node-test.false))) c.loop-node.invariant

use Rattle.std.proofs.Common.{◌≡◌, ◌∙◌, ap, subst, ◌++◌, get_or, None, List, map, arith}
use Rattle.std.specs.Option.{option_to_list}
use Rattle.std.proofs.lemmas.List.{take_all}
use Rattle.std.proofs.lemmas.Result.{err_from_is_err_and}
use Rattle.netlist_core.specs.declared.flat.Net.{Net as FlatNet}
use Rattle.cover_mapper.specs.Sourced.{sources_at}
use Rattle.cover_mapper.proofs.Gathering.{gathered_more}
use Rattle.cover_mapper.proofs.classes.sources_of_all.Goals as goal

pub returns-in_err-found : goal.returns-in_err-found
returns-in_err-found c = rw ((err_from_is_err_and c.from_residual.result c.from_residual.ensures.1).1) tt

pub loop-net-init : goal.loop-net-init
loop-net-init c = c.in_ok-found.ensures.items

pub returns-in_err-push_source : goal.returns-in_err-push_source
returns-in_err-push_source c = rw ((err_from_is_err_and c.from_residual-in_err-push_source.result c.from_residual-in_err-push_source.ensures.1).1) tt

pub loop-net-preserved : goal.loop-net-preserved
loop-net-preserved c =
    c.in_ok-push_source.ensures ∙ ap (λ (net : FlatNet). c.loop-net.found.items ++ option_to_list (get_or c.args.sources.now net.class None)) c.net-item.is
    ∙ gathered_more (λ (net : FlatNet). net.class) c.args.sources.now c.loop-net.found.items c.args.nets.now c.loop-net.net-index _ (omega (arith, c.loop-net-test.true)) c.loop-net.invariant

pub returns : goal.returns
returns c =
    subst (λ (nets : List FlatNet). c.loop-net.found.items ≡ sources_at c.args.sources.now (map (λ (net : FlatNet). net.class) nets))
    (take_all c.loop-net.net-index c.args.nets.now (omega (arith, c.loop-net-test.false))) c.loop-net.invariant

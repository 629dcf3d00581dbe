use Rattle.std.proofs.Common.{◌≡◌, ◌∙◌, ap, subst, ◌++◌, get_or, None, List, map, arith}
use Rattle.std.specs.Option.{option_to_list}
use Rattle.std.proofs.lemmas.List.{take_all}
use Rattle.std.proofs.lemmas.Result.{err_from_is_err_and}
use Rattle.netlist_core.specs.declared.flat.NetId.{NetId}
use Rattle.netlist_meaning.specs.Flat.{class_of}
use Rattle.cover_mapper.specs.Sourced.{sources_at}
use Rattle.cover_mapper.proofs.Gathering.{gathered_more}
use Rattle.cover_mapper.proofs.classes.sources_of_nets.Goals as goal

pub returns-in_err-found : goal.returns-in_err-found
returns-in_err-found c = rw ((err_from_is_err_and c.from_residual.result c.from_residual.ensures.1).1) tt

pub loop-id-init : goal.loop-id-init
loop-id-init c = c.in_ok-found.ensures.items

pub returns-in_err-push_source : goal.returns-in_err-push_source
returns-in_err-push_source c = rw ((err_from_is_err_and c.from_residual-in_err-push_source.result c.from_residual-in_err-push_source.ensures.1).1) tt

pub loop-id-preserved : goal.loop-id-preserved
loop-id-preserved c =
    c.in_ok-push_source.ensures ∙ ap (λ n. c.loop-id.found.items ++ option_to_list (get_or c.args.sources.now n None)) c.class_of.ensures
    ∙ gathered_more (class_of c.args.flat.now) c.args.sources.now c.loop-id.found.items c.args.ids.now c.loop-id.id-index _ (omega (arith, c.loop-id-test.true)) c.loop-id.invariant

pub returns : goal.returns
returns c =
    subst (λ (ids : List NetId). c.loop-id.found.items ≡ sources_at c.args.sources.now (map (class_of c.args.flat.now) ids))
    (take_all c.loop-id.id-index c.args.ids.now (omega (arith, c.loop-id-test.false))) c.loop-id.invariant

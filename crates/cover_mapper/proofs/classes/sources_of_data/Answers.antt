use Rattle.std.proofs.Common.{◌≡◌, ◌∙◌, ap, subst, ◌++◌, get_or, None, List, map, arith}
use Rattle.std.specs.Option.{option_to_list}
use Rattle.std.proofs.lemmas.List.{take_all}
use Rattle.std.proofs.lemmas.Result.{err_from_is_err_and}
use Rattle.netlist_core.specs.declared.flat.FlatLatch.{FlatLatch}
use Rattle.netlist_meaning.specs.Flat.{class_of}
use Rattle.cover_mapper.specs.Sourced.{sources_at}
use Rattle.cover_mapper.proofs.Gathering.{gathered_more}
use Rattle.cover_mapper.proofs.classes.sources_of_data.Goals as goal

pub returns-in_err-found : goal.returns-in_err-found
returns-in_err-found c = rw ((err_from_is_err_and c.from_residual.result c.from_residual.ensures.1).1) tt

pub loop-latch-init : goal.loop-latch-init
loop-latch-init c = c.in_ok-found.ensures.items

pub returns-in_err-push_source : goal.returns-in_err-push_source
returns-in_err-push_source c = rw ((err_from_is_err_and c.from_residual-in_err-push_source.result c.from_residual-in_err-push_source.ensures.1).1) tt

pub loop-latch-preserved : goal.loop-latch-preserved
loop-latch-preserved c =
    c.in_ok-push_source.ensures ∙ ap (λ n. c.loop-latch.found.items ++ option_to_list (get_or c.args.sources.now n None)) c.class_of.ensures
    ∙ gathered_more (λ latch. class_of c.args.flat.now latch.input) c.args.sources.now c.loop-latch.found.items c.args.latches.now c.loop-latch.latch-index _ (omega (arith, c.loop-latch-test.true)) c.loop-latch.invariant

pub returns : goal.returns
returns c =
    subst (λ (latches : List FlatLatch). c.loop-latch.found.items ≡ sources_at c.args.sources.now (map (λ (latch : FlatLatch). class_of c.args.flat.now latch.input) latches))
    (take_all c.loop-latch.latch-index c.args.latches.now (omega (arith, c.loop-latch-test.false))) c.loop-latch.invariant

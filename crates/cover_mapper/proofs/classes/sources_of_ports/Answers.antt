use Rattle.std.proofs.Common.{◌≡◌, ◌∙◌, ap, subst, ◌++◌, get_or, None, List, arith}
use Rattle.std.specs.Option.{option_to_list}
use Rattle.std.proofs.lemmas.List.{take_all}
use Rattle.std.proofs.lemmas.Result.{err_from_is_err_and}
use Rattle.netlist_core.specs.declared.flat.FlatPort.{FlatPort}
use Rattle.netlist_meaning.specs.Flat.{class_of, port_classes}
use Rattle.cover_mapper.specs.Sourced.{sources_at}
use Rattle.cover_mapper.proofs.Gathering.{gathered_more}
use Rattle.cover_mapper.proofs.classes.sources_of_ports.Goals as goal

pub returns-in_err-found : goal.returns-in_err-found
returns-in_err-found c = rw ((err_from_is_err_and c.from_residual.result c.from_residual.ensures.1).1) tt

pub loop-port-init : goal.loop-port-init
loop-port-init c = c.in_ok-found.ensures.items

pub returns-in_err-push_source : goal.returns-in_err-push_source
returns-in_err-push_source c = rw ((err_from_is_err_and c.from_residual-in_err-push_source.result c.from_residual-in_err-push_source.ensures.1).1) tt

pub loop-port-preserved : goal.loop-port-preserved
loop-port-preserved c =
    c.in_ok-push_source.ensures ∙ ap (λ n. c.loop-port.found.items ++ option_to_list (get_or c.args.sources.now n None)) c.class_of.ensures
    ∙ gathered_more (λ port. class_of c.args.flat.now port.net) c.args.sources.now c.loop-port.found.items c.args.ports.now c.loop-port.port-index _ (omega (arith, c.loop-port-test.true)) c.loop-port.invariant

pub returns : goal.returns
returns c =
    subst (λ (ports : List FlatPort). c.loop-port.found.items ≡ sources_at c.args.sources.now (port_classes c.args.flat.now ports))
    (take_all c.loop-port.port-index c.args.ports.now (omega (arith, c.loop-port-test.false))) c.loop-port.invariant

use Rattle.std.proofs.Common.{◌∙◌, sym, ap, List, Bool, length}
use Rattle.std.proofs.lemmas.Result.{err_from_is_err_and}
use Rattle.netlist_core.specs.Names.{Name}
use Rattle.netlist_meaning.specs.Places.{main_outputs}
use Rattle.made_summary.specs.Summaries.{outputs_by_name}
use Rattle.made_summary.proofs.Summarized.{evaluated_many}
use Rattle.made_summary.proofs.summarizing.outputs_in.Goals as goal

pub out_names-requires : goal.out_names-requires
out_names-requires c = c.requires.parts

pub run-requires-clause-parts : goal.run-requires-clause-parts
run-requires-clause-parts c = c.requires.parts

pub run-requires-clause-many : goal.run-requires-clause-many
run-requires-clause-many c = c.requires.many

pub run-requires-clause-long : goal.run-requires-clause-long
run-requires-clause-long c = c.requires.long

pub outputs_by_name-requires-clause-simulated : goal.outputs_by_name-requires-clause-simulated
outputs_by_name-requires-clause-simulated c = c.requires.simulated ∙ sym (ap (λ (names : List Name). length names) (c.as_slice.ensures ∙ c.in-Ok.ensures))

pub outputs_by_name-requires-clause-evaluated : goal.outputs_by_name-requires-clause-evaluated
outputs_by_name-requires-clause-evaluated c =
    ap (λ (rows : List (List Bool)). length rows) c.as_slice-2.ensures
    ∙ evaluated_many c.args.netlist.design c.args.streams.now c.in-Ok.names c.in_ok-evaluated.evaluated c.in-Ok.ensures c.in_ok-evaluated.ensures
    ∙ sym (ap (λ (names : List Name). length names) c.as_slice.ensures)

pub returns-clause-outputs : goal.returns-clause-outputs
returns-clause-outputs c =
    let design = c.args.netlist.design in
    record {
      evaluated = c.in_ok-evaluated.evaluated;
      runs = c.in_ok-evaluated.ensures;
      are = c.in_ok-outputs.ensures
          ∙ ap (λ (names : List Name). outputs_by_name names c.args.simulated.now c.as_slice-2.result.now) (c.as_slice.ensures ∙ c.in-Ok.ensures)
          ∙ ap (λ (rows : List (List Bool)). outputs_by_name (main_outputs design) c.args.simulated.now rows) c.as_slice-2.ensures;
    }

pub returns-in_err-evaluated-clause-outputs : goal.returns-in_err-evaluated-clause-outputs
returns-in_err-evaluated-clause-outputs c = rw ((err_from_is_err_and c.from_residual.result c.from_residual.ensures.1).1) tt

pub returns-in_err-evaluated-clause-refused : goal.returns-in_err-evaluated-clause-refused
returns-in_err-evaluated-clause-refused c =
    let p = err_from_is_err_and c.from_residual.result c.from_residual.ensures.1 in
    rw (p.1) p.2

pub returns-in_err-outputs-clause-outputs : goal.returns-in_err-outputs-clause-outputs
returns-in_err-outputs-clause-outputs c = rw ((err_from_is_err_and c.from_residual-in_err-outputs.result c.from_residual-in_err-outputs.ensures.1).1) tt

pub returns-in_err-outputs-clause-refused : goal.returns-in_err-outputs-clause-refused
returns-in_err-outputs-clause-refused c =
    let p = err_from_is_err_and c.from_residual-in_err-outputs.result c.from_residual-in_err-outputs.ensures.1 in
    rw (p.1) p.2

use Rattle.std.proofs.Common.{◌∙◌, subst, sym, ap, List, Bool, length}
use Rattle.std.proofs.lemmas.Result.{err_from_is_err_and}
use Rattle.made_summary.specs.Outputs.{AreOutputsIn}
use Rattle.made_summary.specs.declared.summarizing.OutputBits.{OutputBits}
use Rattle.made_summary.proofs.summarizing.told_by.Goals as goal

pub shown_by-requires : goal.shown_by-requires
shown_by-requires c = c.requires.driven

pub outputs_in-requires-clause-parts : goal.outputs_in-requires-clause-parts
outputs_in-requires-clause-parts c = c.requires.parts

pub outputs_in-requires-clause-many : goal.outputs_in-requires-clause-many
outputs_in-requires-clause-many c = c.requires.many

pub outputs_in-requires-clause-long : goal.outputs_in-requires-clause-long
outputs_in-requires-clause-long c = c.requires.long

pub outputs_in-requires-clause-simulated : goal.outputs_in-requires-clause-simulated
outputs_in-requires-clause-simulated c =
    ap (λ (rows : List (List Bool)). length rows) (c.as_slice.ensures ∙ c.in-Ok.ensures.bits) ∙ c.requires.outputs

pub returns-in_ok-outputs-in-Ok-clause-told : goal.returns-in_ok-outputs-in-Ok-clause-told
returns-in_ok-outputs-in-Ok-clause-told c = record {
  weight = c.told.ensures.weight;
  lanes = c.told.ensures.lanes;
  columns = c.told.ensures.columns;
  period = c.told.ensures.period;
  latency = c.told.ensures.latency;
  near = c.in-Ok.ensures.near;
  outputs = subst (λ (rows : List (List Bool)). AreOutputsIn c.args.netlist.design c.args.streams.now rows c.told.result.outputs) (c.as_slice.ensures ∙ c.in-Ok.ensures.bits)
      (subst (λ (outputs : List OutputBits). AreOutputsIn c.args.netlist.design c.args.streams.now c.as_slice.result.now outputs) (sym c.told.ensures.outputs) c.in_ok-outputs-in-Ok.ensures.outputs);
}

pub returns-in_err-outputs-in-Ok-clause-told : goal.returns-in_err-outputs-in-Ok-clause-told
returns-in_err-outputs-in-Ok-clause-told c = rw ((err_from_is_err_and c.from_residual.result c.from_residual.ensures.1).1) tt

pub returns-in_err-outputs-in-Ok-clause-refused : goal.returns-in_err-outputs-in-Ok-clause-refused
returns-in_err-outputs-in-Ok-clause-refused c =
    let p = err_from_is_err_and c.from_residual.result c.from_residual.ensures.1 in
    rw (p.1, p.2, c.in_err-outputs-in-Ok.ensures.refused) tt

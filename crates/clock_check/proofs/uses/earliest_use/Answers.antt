use Rattle.std.proofs.Common.{ap, ◌∙◌}
use Rattle.netlist_core.specs.declared.flat.Flat.{Flat}
use Rattle.clock_check.proofs.Earliest.{all_uses}
use Rattle.clock_check.proofs.uses.earliest_use.Goals as goal

pub returns : goal.returns
returns c =
    let is_flat = c.flat-flat.ensures.flat in
    all_uses c.args.clocks.now c.as_slice.result.now c.as_slice-2.result.now c.as_slice-3.result.now c.earliest_in_nodes-in_nodes.result c.earliest_in_latches-in_latches.result c.earliest_in_outs.result
    (c.as_slice.ensures ∙ ap (λ (f : Flat). f.nodes) is_flat) (c.as_slice-2.ensures ∙ ap (λ (f : Flat). f.latches) is_flat) (c.as_slice-3.ensures ∙ ap (λ (f : Flat). f.outs) is_flat)
    c.earliest_in_nodes-in_nodes.ensures c.earliest_in_latches-in_latches.ensures c.earliest_in_outs.ensures

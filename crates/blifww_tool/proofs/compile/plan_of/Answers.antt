use Rattle.std.proofs.Common.{◌∙◌}
use Rattle.flat_designs.proofs.Whole.{flat_is_one}
use Rattle.netlist_text.proofs.SoundParts.{sound, weighed, small}
use Rattle.plan_carries.proofs.Designs.{designs_are_carried}
use Rattle.blifww_tool.proofs.Compiled.{carried_by, compilable, drawn}
use Rattle.flat_designs.proofs.Weights.{flat_is_weighed}
use Rattle.lift_carries.proofs.Drawings.{compiled_are_drawings}
use Rattle.lift_carries.proofs.Starts.{one_context_is_circuit}
use Rattle.blifww_tool.proofs.compile.plan_of.Goals as goal

pub plan_flat-requires-clause-compilable : goal.plan_flat-requires-clause-compilable
plan_flat-requires-clause-compilable c = compilable c.args.netlist.now.design c.args.netlist.now.flat _ c.requires.parts c.requires.names

pub plan_flat-requires-clause-weighed : goal.plan_flat-requires-clause-weighed
plan_flat-requires-clause-weighed c = weighed c.args.netlist.now.design c.args.netlist.now.flat _ c.requires.parts flat_is_weighed

pub plan_flat-requires-clause-small : goal.plan_flat-requires-clause-small
plan_flat-requires-clause-small c = small c.args.netlist.now.design c.args.netlist.now.flat _ c.requires.parts

pub returns-clause-carried : goal.returns-clause-carried
returns-clause-carried c ports table =
    let p = c.in_ok-plan.ensures in
    let plan = c.in_ok-plan.plan in
    let flat = c.args.netlist.now.flat in
    let is = p.planned.is in
    let k = compilable c.args.netlist.now.design flat _ c.requires.parts c.requires.names in
    carried_by flat_is_one designs_are_carried c.args.netlist.now.design flat _ plan ports c.requires.parts
    is.admissible is.edges table p.cells p.lanes p.places (p.carries ports table) p.small (λ none e. table.period ∙ p.period none e)
    (drawn one_context_is_circuit compiled_are_drawings flat plan ports k.sound k.named k.names k.places is.admissible is.bare is.edges _ p.cells.starts table)

pub returns-clause-bare : goal.returns-clause-bare
returns-clause-bare c = c.in_ok-plan.ensures.planned.is.bare

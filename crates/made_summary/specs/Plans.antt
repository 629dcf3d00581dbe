-- A made netlist with its parts and its plan.
use Rattle.std.specs.Prelude.{ℕ, ◌≡◌, length}
use Rattle.netlist_text.specs.declared.netlist.Netlist.{Netlist}
use Rattle.netlist_text.specs.Parts.{AreParts}
use Rattle.netlist_plans.specs.declared.planning.Planned.{Planned}
use Rattle.made_netlists.specs.Design.{made_design}
use Rattle.made_summary.specs.MadeNetlists.{HasMadeSizes}
use Rattle.made_summary.specs.Summaries.{IsMadePlan}
use Rattle.made_summary.specs.Laws.{ReadsAsPlan}

pub record IsMadeWithPlan (seed size : ℕ) (netlist : Netlist) (planned : Planned) : Type 0 where
  pub design : netlist.design ≡ made_design seed size
  pub parts : AreParts netlist.design netlist.flat netlist.order.nodes
  pub sizes : HasMadeSizes size netlist.flat
  pub is_plan : IsMadePlan seed size planned.plan planned.ports
  pub reads : ReadsAsPlan planned.plan planned.ports
  pub ins : length planned.ports.ins ≡ 4

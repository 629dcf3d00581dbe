-- What a flat netlist that can be compiled, its list of cells, a plan of the list and its table are together.
use Rattle.std.proofs.Common.{◌≡◌, ℕ, List, []}
use Rattle.lane_core.specs.declared.plan.Plan.{Plan}
use Rattle.lane_core.specs.Plans.{IsAdmissible}
use Rattle.cell_core.specs.declared.list.CellList.{CellList}
use Rattle.cell_meaning.specs.Computes.{ComputesByPlan}
use Rattle.netlist_core.specs.declared.flat.Flat.{Flat}
use Rattle.pattern_reading.specs.declared.ports.Ports.{Ports}
use Rattle.plan_ports.specs.Tables.{HasPortsOf, IsTableOf}
use Rattle.plan_carries.specs.Compiled.{ComputesFlat, IsCompiled}
use Rattle.plan_carries.proofs.Written.{plans_have_ports}
use Rattle.netlist_plans.specs.Lists.{IsCompilable, IsPlanned}
use Rattle.netlist_plans.proofs.Tables.{a_table}

pub compiled : (flat : Flat) (order : List ℕ) (list : CellList) (plan : Plan) (contexts : ℕ) (ports : Ports) → IsCompilable flat order → ComputesFlat flat list → IsAdmissible plan → plan.tape ≡ [] → ComputesByPlan list plan
    → IsTableOf flat plan contexts ports → IsCompiled flat list plan contexts ports
compiled flat order list plan contexts ports k list_computes admissible bare plan_computes table = record {
  sound = k.sound;
  order = order;
  ordered = k.ordered;
  named = k.named;
  names = k.names;
  places = k.places;
  list_computes = list_computes;
  admissible = admissible;
  bare = bare;
  plan_computes = plan_computes;
  table = table;
}

-- the plan itself, with a table for one context
pub planned_compiled : (flat : Flat) (order : List ℕ) (plan : Plan) (ports : Ports) → IsCompilable flat order → (p : IsPlanned flat plan) → IsTableOf flat plan 1 ports → IsCompiled flat p.list plan 1 ports
planned_compiled flat order plan ports k p table = compiled flat order p.list plan 1 ports k p.computes p.is.admissible p.is.bare p.is.computes table

-- it has the netlist's ports
pub planned_ports : (flat : Flat) (plan : Plan) → IsPlanned flat plan → HasPortsOf flat plan
planned_ports flat plan p = plans_have_ports flat p.list plan p.computes p.is.computes

-- and it has a table
pub planned_table : (flat : Flat) (plan : Plan) → IsPlanned flat plan → (ports : Ports) × IsTableOf flat plan 1 ports
planned_table flat plan p = a_table flat plan (planned_ports flat plan p) 1

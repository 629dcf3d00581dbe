-- What a compiler makes of a flat netlist, part by part: each part is described by the one before
-- it.
use Rattle.std.specs.Prelude.{◌≡◌, ℕ, Bool, List, []}
use Rattle.netlist_core.specs.declared.flat.Flat.{Flat}
use Rattle.netlist_meaning.specs.Flat.{IsSound, IsNamed}
use Rattle.netlist_meaning.specs.FlatOrder.{IsOrder}
use Rattle.netlist_meaning.specs.FlatValuation.{IsFlatValuation}
use Rattle.cell_core.specs.declared.list.CellList.{CellList}
use Rattle.cell_meaning.specs.Mapped.{IsMapped, HasBits}
use Rattle.lane_core.specs.declared.plan.Plan.{Plan}
use Rattle.lane_core.specs.Plans.{IsAdmissible}
use Rattle.cell_meaning.specs.Computes.{ComputesByPlan}
use Rattle.pattern_reading.specs.declared.ports.Ports.{Ports}
use Rattle.plan_ports.specs.Tables.{IsTableOf, HasPortNames, HasTablePlaces}

-- the list computes the flat netlist: in each of the netlist's valuations its outputs, its latches'
-- data and its listed nets have the bits that the list computes
pub record ComputesFlat (flat : Flat) (list : CellList) : Type 0 where
  pub mapped : IsMapped flat list
  pub bits : (inputs state : List Bool) (bits : ℕ → Bool) → IsFlatValuation flat inputs state bits
      → HasBits flat list inputs state bits

-- The flat netlist is sound and has an order, and its names and places can stand in a port table.
-- The list computes the netlist, the plan computes the list and has no tape, and the table is the
-- plan's, for this number of contexts.
pub record IsCompiled (flat : Flat) (list : CellList) (plan : Plan) (contexts : ℕ)
    (ports : Ports) : Type 0 where
  pub sound : IsSound flat
  pub order : List ℕ
  pub ordered : IsOrder flat order
  pub named : IsNamed flat
  pub names : HasPortNames flat
  pub places : HasTablePlaces flat
  pub list_computes : ComputesFlat flat list
  pub admissible : IsAdmissible plan
  pub bare : plan.tape ≡ []
  pub plan_computes : ComputesByPlan list plan
  pub table : IsTableOf flat plan contexts ports

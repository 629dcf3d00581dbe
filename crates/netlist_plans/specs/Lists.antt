-- Flat netlists that can be compiled, lists of cells of a flat netlist, and plans of them.
use Rattle.std.specs.Prelude.{ℕ, Bool, List}
use Rattle.cell_core.specs.declared.cells.Src.{Src}
use Rattle.cell_meaning.specs.Mapped.{HasBits, IsMappedWith}
use Rattle.netlist_meaning.specs.Flat.{IsNamed, IsSound}
use Rattle.netlist_meaning.specs.FlatOrder.{IsOrder}
use Rattle.netlist_meaning.specs.FlatValuation.{IsFlatValuation}
use Rattle.lane_core.specs.declared.plan.Plan.{Plan}
use Rattle.cell_core.specs.declared.list.CellList.{CellList}
use Rattle.cell_plans.specs.PlanOf.{IsPlanOf}
use Rattle.netlist_core.specs.declared.flat.Flat.{Flat}
use Rattle.plan_carries.specs.Compiled.{ComputesFlat}
use Rattle.plan_ports.specs.Tables.{HasPortNames, HasTablePlaces}

-- a sound flat netlist with an order of its covers, whose names and places can stand in a table
pub record IsCompilable (flat : Flat) (order : List ℕ) : Type 0 where
  pub sound : IsSound flat
  pub ordered : IsOrder flat order
  pub named : IsNamed flat
  pub names : HasPortNames flat
  pub places : HasTablePlaces flat

-- the list is mapped from the netlist, the sources of its covers of one cell are among these, and
-- its ports and nets have the bits of each valuation
pub record MapsFlat (flat : Flat) (list : CellList) (kept : List Src) : Type 0 where
  pub mapped : IsMappedWith flat list kept
  pub bits : (inputs state : List Bool) (bits : ℕ → Bool) → IsFlatValuation flat inputs state bits
      → HasBits flat list inputs state bits

-- a list of cells computes the flat netlist, and the plan is a plan of that list
pub record IsPlanned (flat : Flat) (plan : Plan) : Type 0 where
  pub list : CellList
  pub computes : ComputesFlat flat list
  pub is : IsPlanOf list plan

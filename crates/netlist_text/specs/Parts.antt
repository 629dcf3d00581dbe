-- What stands in a netlist.
use Rattle.std.specs.Prelude.{ℕ, ◌≤◌, List}
use Rattle.netlist_core.specs.declared.model.Design.{Design}
use Rattle.netlist_core.specs.declared.flat.Flat.{Flat}
use Rattle.netlist_meaning.specs.Weight.{weight}
use Rattle.netlist_meaning.specs.FlatOf.{IsFlatOf}
use Rattle.netlist_meaning.specs.FlatOrder.{IsOrder}
use Rattle.netlist_rules.specs.ModelFaults.{AreFaultless}
use Rattle.netlist_rules.specs.Clocks.{HasNoClockFault}
use Rattle.netlist_core.specs.Limit.{weight_limit}

-- A design without a fault, of a weight within the limit, its flat netlist, and an order of the
-- covers.
pub record AreParts (design : Design) (flat : Flat) (order : List ℕ) : Type 0 where
  pub faultless : AreFaultless design.models
  pub clocks : HasNoClockFault design
  pub light : weight design ≤ weight_limit
  pub is_flat : IsFlatOf design flat
  pub is_order : IsOrder flat order

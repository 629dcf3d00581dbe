-- Netlists that routed circuits carry, and patterns that carry netlists.
use Rattle.std.specs.Prelude.{ℕ, ◌≡◌, false, List}
use Rattle.ww_rule.specs.declared.pattern.Pattern.{Pattern}
use Rattle.ww_rule.specs.Grid.{plane_of}
use Rattle.pattern_reading.specs.declared.ports.Ports.{Ports}
use Rattle.netlist_core.specs.declared.model.Design.{Design}
use Rattle.cell_core.specs.declared.list.CellList.{CellList}
use Rattle.routed_circuits.specs.Tables.{ShowsListRuns}
use Rattle.route_cells.specs.Fits.{FitsPorts}
use Rattle.tile_match.specs.Names.{has_bad_name}
use Rattle.blif_write.specs.declared.lift.Lift.{Lift}
use Rattle.blif_write.specs.Lift.{IsLiftOfCells}
use Rattle.netlist_text.specs.NetlistText.{IsNetlist}
use Rattle.program_runs.specs.Netlists.{IsNetlistOf}
use Rattle.routed_plans.specs.declared.nets.ShownNets.{ShownNets}
use Rattle.routed_plans.specs.Nets.{ShowsNetsBy}

-- the text carries the netlist whose text this is
abbrev pub GivesNetlist : (text netlist : List ℕ) → Type 0
GivesNetlist text netlist = (design : Design) × IsNetlistOf text netlist design

-- the text is a netlist, and the text of the pattern carries it and shows its nets
abbrev pub GivesPattern : ShownNets → (text pattern : List ℕ) → Type 0
GivesPattern nets text pattern =
    (design : Design) × IsNetlist text design × ShowsNetsBy nets pattern design

-- The lifted circuit has the cells whose runs the pattern shows at the ports, and the names of the
-- ports, none of which is bad.
pub record IsLiftOfPattern (pattern : Pattern) (ports : Ports) (lift : Lift) : Type 0 where
  pub list : CellList
  pub shows : ShowsListRuns (plane_of pattern.rows) ports list
  pub fits : FitsPorts ports list
  pub named : has_bad_name ports ≡ false
  pub lifted : IsLiftOfCells list ports lift

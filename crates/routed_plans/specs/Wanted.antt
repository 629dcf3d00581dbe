-- The lists of cells with which drawings are matched.
use Rattle.std.specs.Prelude.{◌≡◌, List, Option}
use Rattle.cell_core.specs.declared.cells.Src.{Src}
use Rattle.cell_core.specs.declared.list.CellList.{CellList}
use Rattle.routed_plans.specs.declared.nets.SeenPort.{SeenPort}
use Rattle.routed_plans.specs.Drawn.{items_drawn}

-- the second list is the first one with these outputs and nets
pub record IsCopyWith (list : CellList) (outs nets : List Src) (copy : CellList) : Type 0 where
  pub inputs : copy.inputs ≡ list.inputs
  pub cells : copy.cells ≡ list.cells
  pub ends : copy.outs ≡ outs
  pub latches : copy.latches ≡ list.latches
  pub starts : copy.starts ≡ list.starts
  pub net_ends : copy.nets ≡ nets

-- the wanted list is the list with those of its nets alone whose ports are drawn
abbrev pub IsWanted : (ports : List (Option SeenPort)) → (wanted list : CellList) → Type 0
IsWanted ports wanted list = IsCopyWith list list.outs (items_drawn ports list.nets) wanted

-- Texts of routed circuits carry the netlists that are lifted from them.
use Rattle.std.specs.Prelude.{ℕ, ◌<◌, ◌^◌, ◌≡◌, false, List, length}
use Rattle.pattern_reading.specs.declared.ports.Ports.{Ports}
use Rattle.pattern_reading.specs.Ports.{names_of}
use Rattle.netlist_core.specs.declared.model.Design.{Design}
use Rattle.cell_core.specs.declared.list.CellList.{CellList}
use Rattle.cell_core.specs.Loops.{names_one}
use Rattle.carries.specs.Carries.{NamesPorts, Carries}
use Rattle.lifted_designs.specs.Computes.{ComputesDesign}
use Rattle.lifted_designs.specs.Runs.{ArePortNames, HasRuns}
use Rattle.lifted_designs.specs.Lifted.{lifted_design}
use Rattle.routed_circuits.specs.Tables.{SpellsListRuns}

-- the text of a routed circuit carries each design that its list computes, if its table names the
-- design's ports
abbrev pub RoutedCarryDesigns : Type 0
RoutedCarryDesigns =
    (text : List ℕ) (design : Design) (list : CellList) → (shown : SpellsListRuns text list)
    → NamesPorts shown.ports design → HasRuns design → ComputesDesign list design
    → Carries text design

-- The list that is found in a routed plane has an input and an output for each port, names no
-- constant 1, and fits in memory; no two ports share a name.
pub record CanBeLifted (ports : Ports) (list : CellList) : Type 0 where
  pub ins : length (names_of ports.ins) ≡ list.inputs
  pub outs : length (names_of ports.outs) ≡ length list.outs
  pub plain : names_one list ≡ false
  pub names : ArePortNames (names_of ports.ins) (names_of ports.outs)
  pub few_cells : length list.cells < 2 ^ 64
  pub few_latches : length list.latches < 2 ^ 64

-- such a text carries the netlist that is lifted from its list
abbrev pub RoutedAreLifted : Type 0
RoutedAreLifted =
    (text : List ℕ) (list : CellList) → (shown : SpellsListRuns text list)
    → CanBeLifted shown.ports list
    → Carries text (lifted_design (names_of shown.ports.ins) (names_of shown.ports.outs) list)

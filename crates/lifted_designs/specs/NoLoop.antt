-- The netlist that is lifted from a list has no combinational loop: a cell reads earlier cells, and
-- no cover reads an output.
use Rattle.std.specs.Prelude.{◌<◌, ◌^◌, ◌≡◌, false, List, length}
use Rattle.netlist_core.specs.Names.{Name}
use Rattle.netlist_meaning.specs.Nets.{Net}
use Rattle.netlist_meaning.specs.Loop.{IsCombinationalLoop}
use Rattle.cell_core.specs.declared.list.CellList.{CellList}
use Rattle.cell_core.specs.Loops.{names_one}
use Rattle.lifted_designs.specs.Lifted.{lifted_design}
use Rattle.lifted_designs.specs.Runs.{ArePortNames}

abbrev pub LiftedHaveNoLoop : Type 0
LiftedHaveNoLoop =
    (list : CellList) (ins outs : List Name) → length ins ≡ list.inputs
    → length outs ≡ length list.outs → names_one list ≡ false
    → ArePortNames ins outs → length list.cells < 2 ^ 64 → length list.latches < 2 ^ 64
    → (nets : List Net) → ¬ IsCombinationalLoop (lifted_design ins outs list) nets

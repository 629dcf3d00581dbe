-- The text of a lifted netlist is that netlist, and has no fault by a rule on lines or models.
use Rattle.std.specs.Prelude.{◌<◌, ◌^◌, ◌≡◌, true, false, List, length}
use Rattle.std.specs.List.{list_all}
use Rattle.netlist_core.specs.Names.{Name}
use Rattle.blif_text.specs.Faults.{IsDesignOf}
use Rattle.cell_core.specs.declared.list.CellList.{CellList}
use Rattle.cell_core.specs.Loops.{names_one}
use Rattle.lifted_designs.specs.Lifted.{lifted_design}
use Rattle.lifted_designs.specs.Runs.{ArePortNames}
use Rattle.lifted_designs.specs.Words.{is_word}
use Rattle.blif_write.specs.Text.{lifted_text}

-- the text of a lifted netlist is that netlist, if the names of the ports are words and no two
-- ports share one
abbrev pub LiftedTextsRead : Type 0
LiftedTextsRead =
    (list : CellList) (ins outs : List Name) → length ins ≡ list.inputs
    → length outs ≡ length list.outs → names_one list ≡ false
    → ArePortNames ins outs → list_all is_word ins ≡ true → list_all is_word outs ≡ true
    → length list.cells < 2 ^ 64 → length list.latches < 2 ^ 64
    → IsDesignOf (lifted_text ins outs list) (lifted_design ins outs list)

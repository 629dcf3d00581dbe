-- Lists that fit a port table.
use Rattle.std.specs.Prelude.{◌<◌, ◌^◌, ◌≡◌, false, length}
use Rattle.pattern_reading.specs.declared.ports.Ports.{Ports}
use Rattle.cell_core.specs.declared.list.CellList.{CellList}
use Rattle.cell_core.specs.Loops.{names_one}

-- The table has one context, and the list an input, an output and a net for each of its lines. It
-- names no constant 1, and fits in memory.
pub record FitsPorts (ports : Ports) (list : CellList) : Type 0 where
  pub contexts : ports.c ≡ 1
  pub ins : length ports.ins ≡ list.inputs
  pub outs : length ports.outs ≡ length list.outs
  pub nets : length ports.nets ≡ length list.nets
  pub plain : names_one list ≡ false
  pub few_cells : length list.cells < 2 ^ 64
  pub few_latches : length list.latches < 2 ^ 64

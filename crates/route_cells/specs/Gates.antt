-- Gates that are in time, by their drawings.
use Rattle.std.specs.Prelude.{ℕ, ◌<◌, ◌≡◌, length}
use Rattle.cell_core.specs.declared.list.CellList.{CellList}
use Rattle.routed_circuits.specs.Runs.{src_at}
use Rattle.gate_library.specs.declared.gate.GateDrawing.{GateDrawing}
use Rattle.gate_library.specs.Lawful.{answer_at, FitsPeriod}
use Rattle.route_tables.specs.declared.tables.TableGate.{TableGate}
use Rattle.route_tables.specs.Runs.{IsAnsweredBy}

-- a gate with this drawing can be used at the period; each of its ports has a source, and those of
-- its outputs are the answers
pub record IsInTimeAndAnswered (list : CellList) (drawing : GateDrawing) (period : ℕ)
    (gate : TableGate) : Type 0 where
  pub in_time : FitsPeriod drawing.timing drawing.time period gate.later
  pub ins : length gate.ins ≡ length drawing.ins
  pub outs : length gate.outs ≡ length drawing.outs
  pub answers : (o : ℕ) → o < length gate.outs
      → IsAnsweredBy list gate.ins (answer_at drawing o) (src_at gate.outs o)

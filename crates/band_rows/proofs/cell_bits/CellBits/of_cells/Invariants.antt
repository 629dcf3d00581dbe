use Rattle.std.proofs.Common.{ℕ, ◌<◌, ◌≤◌, ◌≡◌}
use Rattle.ww_rule.specs.declared.pattern.State.TheVariants.{Empty}
use Rattle.ww_rule.specs.Grid.{row_cell}
use Rattle.band_rows.specs.CellWords.{state_by, IsOnCells}
use Rattle.band_rows.proofs.cell_bits.CellBits.of_cells.Given as goal

abbrev pub invariant-loop-b : goal.invariant-loop-b
invariant-loop-b l =
    record {
      on_cells : IsOnCells l.bits;
      done : (i : ℕ) → i < l.b → state_by l.bits i ≡ row_cell l.cells i;
      left : (i : ℕ) → l.b ≤ i → state_by l.bits i ≡ Empty;
    }

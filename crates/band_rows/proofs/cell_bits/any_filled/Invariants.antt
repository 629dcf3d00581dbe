use Rattle.std.proofs.Common.{ℕ, ◌<◌, ◌≡◌, false}
use Rattle.ww_rule.specs.declared.pattern.State.TheVariants.{Empty}
use Rattle.ww_rule.specs.Grid.{row_cell}
use Rattle.band_rows.proofs.cell_bits.any_filled.Given as goal

abbrev pub invariant-loop-state : goal.invariant-loop-state
invariant-loop-state l = l.any ≡ false → (x : ℕ) → x < l.state-index → row_cell l.cells x ≡ Empty

use Rattle.std.proofs.Common.{ℕ, ◌<◌}
use Rattle.std.specs.Prelude.{◌≢◌}
use Rattle.gate_laws.specs.Drawings.{in_at}
use Rattle.gate_library.specs.Lawful.{own_cell}
use Rattle.gate_library.proofs.testing.are_in_own_cells.Given as goal

abbrev pub invariant-loop-i : goal.invariant-loop-i
invariant-loop-i l = (i : ℕ) → i < l.i → (j : ℕ) → j < i → own_cell (in_at l.ins i) ≢ own_cell (in_at l.ins j)

use Rattle.std.proofs.Common.{ℕ, ◌<◌}
use Rattle.std.specs.Prelude.{◌≢◌}
use Rattle.gate_laws.specs.Drawings.{in_at}
use Rattle.gate_library.specs.Lawful.{own_cell}
use Rattle.gate_library.proofs.testing.is_first_there.Given as goal

abbrev pub invariant-loop-j : goal.invariant-loop-j
invariant-loop-j l = (j : ℕ) → j < l.j → own_cell (in_at l.ins l.i) ≢ own_cell (in_at l.ins j)

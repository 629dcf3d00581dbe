use Rattle.std.proofs.Common.{ℕ, ◌<◌, ◌≡◌, false}
use Rattle.gate_laws.specs.Drawings.{in_at, is_beside}
use Rattle.gate_laws.proofs.window.is_beside_any.Given as goal

abbrev pub invariant-loop-cell : goal.invariant-loop-cell
invariant-loop-cell l = (k : ℕ) → k < l.cell-index → is_beside l.x l.y (in_at l.ins k) ≡ false

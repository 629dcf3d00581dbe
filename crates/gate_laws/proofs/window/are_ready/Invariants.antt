use Rattle.std.proofs.Common.{ℕ, ◌<◌, ◌≡◌}
use Rattle.gate_laws.specs.Drawings.{in_at, IsReadyInput}
use Rattle.gate_laws.proofs.window.are_ready.Given as goal

abbrev pub invariant-loop-input : goal.invariant-loop-input
invariant-loop-input l =
    (k : ℕ) → k < l.input-index → (in_at l.ins k).generation ≡ l.generation → IsReadyInput l.now l.width (in_at l.ins k)

use Rattle.std.proofs.Common.{ℕ, ◌<◌}
use Rattle.gate_laws.specs.Drawings.{IsDarkBeside}
use Rattle.gate_laws.proofs.window.is_alone.Given as goal

abbrev pub invariant-loop-k : goal.invariant-loop-k
invariant-loop-k l = (k : ℕ) → k < l.k → IsDarkBeside l.now l.width l.input k

use Rattle.std.proofs.Common.{ℕ, ◌<◌}
use Rattle.gate_laws.specs.Drawings.{IsCalmAt}
use Rattle.gate_laws.proofs.window.is_calm.Given as goal

abbrev pub invariant-loop-k : goal.invariant-loop-k
invariant-loop-k l = (k : ℕ) → k < l.k → IsCalmAt l.base l.now l.width l.ins k

use Rattle.std.proofs.Common.{ℕ, ◌<◌, length}
use Rattle.gate_laws.specs.Drawings.{in_at, Conducts, IsInside}
use Rattle.gate_laws.proofs.window.has_inputs.Given as goal

abbrev pub invariant-loop-input : goal.invariant-loop-input
invariant-loop-input l =
    (k : ℕ) → k < l.input-index → Conducts l.cells l.width (in_at l.ins k) × IsInside (length l.cells) l.width (in_at l.ins k) × ((in_at l.ins k).generation < l.time)

use Rattle.std.proofs.Common.{ℕ, ◌<◌, ◌≡◌, get_or}
use Rattle.std.specs.Prelude.{◌⊎◌}
use Rattle.ww_rule.specs.declared.pattern.State.TheVariants.{Empty, Conductor}
use Rattle.gate_laws.proofs.window.is_unlit.Given as goal

abbrev pub invariant-loop-cell : goal.invariant-loop-cell
invariant-loop-cell l = (k : ℕ) → k < l.cell-index → (get_or l.cells k Empty ≡ Empty) ⊎ (get_or l.cells k Empty ≡ Conductor)

use Rattle.std.proofs.Common.{ℕ, pos, ◌<◌, ◌≡◌, get_or}
use Rattle.ww_rule.specs.declared.pattern.State.TheVariants.{Conductor}
use Rattle.tile_timing.specs.Window.{shown}
use Rattle.gate_laws.proofs.BitNumbers.{no_out}
use Rattle.gate_laws.proofs.window.has_outputs.Given as goal

abbrev pub invariant-loop-out : goal.invariant-loop-out
invariant-loop-out l =
    (k : ℕ) → k < l.out-index → (shown l.cells l.width (pos (get_or l.outs k no_out).x) (pos (get_or l.outs k no_out).y) ≡ Conductor) × ((get_or l.outs k no_out).delay < l.time)

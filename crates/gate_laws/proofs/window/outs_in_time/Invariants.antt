use Rattle.std.proofs.Common.{ℕ, ◌<◌, get_or}
use Rattle.tile_timing.specs.Window.{shown}
use Rattle.gate_laws.specs.Drawings.{IsOutputInTime}
use Rattle.gate_laws.proofs.BitNumbers.{no_out}
use Rattle.gate_laws.proofs.window.outs_in_time.Given as goal

abbrev pub invariant-loop-out : goal.invariant-loop-out
invariant-loop-out l = (k : ℕ) → k < l.out-index → IsOutputInTime (shown l.now l.width) l.number l.generation (get_or l.outs k no_out)

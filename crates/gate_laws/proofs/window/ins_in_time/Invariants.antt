use Rattle.std.proofs.Common.{ℕ, ◌<◌}
use Rattle.tile_timing.specs.Window.{shown}
use Rattle.gate_laws.specs.Drawings.{IsInputInTime}
use Rattle.gate_laws.proofs.window.ins_in_time.Given as goal

abbrev pub invariant-loop-i : goal.invariant-loop-i
invariant-loop-i l = (k : ℕ) → k < l.i → IsInputInTime (shown l.now l.width) l.ins l.bits l.generation k

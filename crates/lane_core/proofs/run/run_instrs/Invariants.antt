use Rattle.std.proofs.Common.{◌≡◌, take}
use Rattle.lane_core.specs.Instrs.{after_instrs}
use Rattle.lane_core.proofs.run.run_instrs.Given as goal

abbrev pub invariant-loop-instr : goal.invariant-loop-instr
invariant-loop-instr l = l.bits ≡ after_instrs (take l.instr-index l.instrs) l.fn.bits

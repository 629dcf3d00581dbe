use Rattle.std.proofs.Common.{◌≡◌, take, length}
use Rattle.circuit_plans.specs.Lifted.{lanes_of, lift_instrs}
use Rattle.circuit_plans.proofs.lifting.lift_instrs.Given as goal

abbrev pub invariant-loop-instr : goal.invariant-loop-instr
invariant-loop-instr l =
    record {
      lifted : lanes_of l.cells.items l.sources ≡ lift_instrs (lanes_of l.initial.cells.items l.initial.sources) (take l.instr-index l.instrs);
      wide : length l.sources ≡ length l.initial.sources;
    }

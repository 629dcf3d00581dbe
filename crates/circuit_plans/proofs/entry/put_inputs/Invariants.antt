use Rattle.std.proofs.Common.{◌≡◌, drop, length}
use Rattle.circuit_plans.specs.Lifted.{sources_with_inputs}
use Rattle.circuit_plans.proofs.entry.put_inputs.Given as goal

-- what is left to be put makes the same
abbrev pub invariant-loop-i : goal.invariant-loop-i
invariant-loop-i l =
    record {
      left : sources_with_inputs l.i (drop l.i l.lanes) l.sources ≡ sources_with_inputs 0 l.lanes l.initial.sources;
      wide : length l.sources ≡ length l.initial.sources;
    }

use Rattle.std.proofs.Common.{◌≡◌, flat_map}
use Rattle.std.specs.List.{range_with_len}
use Rattle.vcd_write.specs.FirstBits.{first_due_bits}
use Rattle.vcd_write.specs.NetWaves.{nets_in}
use Rattle.vcd_write.proofs.first_bits.unsorted.Given as goal

abbrev pub invariant-loop-context : goal.invariant-loop-context
invariant-loop-context l = l.due.items ≡ first_due_bits 0 (flat_map (λ context. nets_in context l.ports.nets) (range_with_len 0 l.context))

use Rattle.std.proofs.Common.{◌≡◌, ◌++◌, length, take}
use Rattle.vcd_write.specs.FirstBits.{first_due_bits}
use Rattle.vcd_write.specs.NetWaves.{nets_in}
use Rattle.vcd_write.proofs.first_bits.push_context.Given as goal

abbrev pub invariant-loop-net : goal.invariant-loop-net
invariant-loop-net l = l.due.items ≡ l.fn.due.items ++ first_due_bits (length l.fn.due.items) (nets_in l.context (take l.net-index l.nets))

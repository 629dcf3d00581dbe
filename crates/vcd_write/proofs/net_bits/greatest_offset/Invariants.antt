use Rattle.std.proofs.Common.{◌≡◌, take}
use Rattle.vcd_write.specs.NetWaves.{greatest_offset}
use Rattle.vcd_write.proofs.net_bits.greatest_offset.Given as goal

abbrev pub invariant-loop-net : goal.invariant-loop-net
invariant-loop-net l = l.greatest ≡ greatest_offset (take l.net-index l.nets)

use Rattle.std.proofs.Common.{◌≡◌, length}
use Rattle.route_cells.specs.Chains.{LatchesLeadBack}
use Rattle.route_cells.proofs.chains.start_bits.Given as goal

abbrev pub invariant-loop-latch : goal.invariant-loop-latch
invariant-loop-latch l = LatchesLeadBack l.list l.fn.to l.bits.items l.at × (length l.bits.items ≡ l._latch)

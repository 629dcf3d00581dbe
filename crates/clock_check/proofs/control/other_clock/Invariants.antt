use Rattle.std.proofs.Common.{ℕ, ◌≡◌, ◌<◌, Some, slice_get}
use Rattle.netlist_core.specs.declared.flat.FlatLatch.{FlatLatch}
use Rattle.netlist_rules.specs.FlatClocks.{HasSameFlatClock}
use Rattle.clock_check.proofs.control.other_clock.Given as goal

abbrev pub invariant-loop-latch : goal.invariant-loop-latch
invariant-loop-latch l = (k : ℕ) (latch : FlatLatch) → k < l.latch-index → slice_get l.latches k ≡ Some latch → HasSameFlatClock l.flat l.first latch

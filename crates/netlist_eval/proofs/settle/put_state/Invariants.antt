use Rattle.std.proofs.Common.{◌≡◌, take}
use Rattle.std.specs.Prelude.{zip}
use Rattle.std.specs.List.{fold}
use Rattle.netlist_eval.specs.Eval.{put, latch_classes}
use Rattle.netlist_eval.proofs.settle.put_state.Given as goal

abbrev pub invariant-loop-k : goal.invariant-loop-k
invariant-loop-k l = l.bits ≡ fold put l.fn.bits (take l.k (zip (latch_classes l.flat l.flat.latches) l.state))

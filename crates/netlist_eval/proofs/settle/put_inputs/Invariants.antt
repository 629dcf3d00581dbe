use Rattle.std.proofs.Common.{◌≡◌, take}
use Rattle.std.specs.Prelude.{zip}
use Rattle.std.specs.List.{fold}
use Rattle.netlist_meaning.specs.Flat.{port_classes}
use Rattle.netlist_eval.specs.Eval.{put}
use Rattle.netlist_eval.proofs.settle.put_inputs.Given as goal

abbrev pub invariant-loop-k : goal.invariant-loop-k
invariant-loop-k l = l.bits ≡ fold put l.fn.bits (take l.k (zip (port_classes l.flat l.flat.ins) l.inputs))

use Rattle.std.proofs.Common.{◌≡◌, take}
use Rattle.std.specs.List.{fold}
use Rattle.netlist_eval.specs.Eval.{settle_node}
use Rattle.netlist_eval.proofs.settle.settle.Given as goal

abbrev pub invariant-loop-n : goal.invariant-loop-n
invariant-loop-n l = l.bits ≡ fold (settle_node l.flat) l.fn.bits (take l.n-index l.order)

use Rattle.std.proofs.Common.{◌≡◌, take}
use Rattle.loop_check.proofs.outputs.as_nodes.Given as goal

abbrev pub invariant-loop-n : goal.invariant-loop-n
invariant-loop-n l = l.nodes.items ≡ take l.n-index l.numbers

use Rattle.std.proofs.Common.{◌≡◌, length}
use Rattle.gate_library.proofs.drawings.add_outs.Given as goal

abbrev pub invariant-loop-out : goal.invariant-loop-out
invariant-loop-out l = length l.answers.items ≡ length l.outs.items

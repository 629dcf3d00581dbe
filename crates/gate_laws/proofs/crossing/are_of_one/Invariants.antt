use Rattle.std.proofs.Common.{ℕ, ◌<◌, get_or}
use Rattle.gate_laws.proofs.BitNumbers.{no_out}
use Rattle.gate_laws.specs.Drawn.{IsOfOne}
use Rattle.gate_laws.proofs.crossing.are_of_one.Given as goal

abbrev pub invariant-loop-out : goal.invariant-loop-out
invariant-loop-out l = (k : ℕ) → k < l.out-index → IsOfOne (get_or l.outs k no_out)

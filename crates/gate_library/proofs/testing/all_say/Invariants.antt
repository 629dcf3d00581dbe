use Rattle.std.proofs.Common.{ℕ, ◌<◌, get_or}
use Rattle.gate_library.specs.declared.gate.Answer.TheVariants.{Copy}
use Rattle.gate_library.specs.Lawful.{no_out, SaysAnswer}
use Rattle.gate_library.proofs.testing.all_say.Given as goal

abbrev pub invariant-loop-o : goal.invariant-loop-o
invariant-loop-o l = (k : ℕ) → k < l.o → SaysAnswer l.timing l.count (get_or l.outs k no_out) (get_or l.answers k (Copy 0))

use Rattle.std.proofs.Common.{drop}
use Rattle.model_index.specs.ByName.{HasNumbersFrom}
use Rattle.model_index.proofs.named.numbers_of.Given as goal

abbrev pub invariant-loop-number : goal.invariant-loop-number
invariant-loop-number l = HasNumbersFrom l.numbers l.number (drop l.number l.models)

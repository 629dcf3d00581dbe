use Rattle.std.proofs.Common.{◌≡◌, None}
use Rattle.lists.proofs.Fills.{IsFilled}
use Rattle.model_index.specs.Numbers.{number_placed}
use Rattle.model_index.proofs.links.lines_of.Given as goal

abbrev pub invariant-loop-k : goal.invariant-loop-k
invariant-loop-k l = IsFilled (λ k number. number ≡ number_placed l.models l.n k) None l.k l.numbers.items

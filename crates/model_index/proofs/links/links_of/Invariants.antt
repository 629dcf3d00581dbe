use Rattle.std.proofs.Common.{ℕ, ◌≡◌, None, [], get_or}
use Rattle.lists.proofs.Fills.{IsFilled}
use Rattle.model_index.specs.Numbers.{number_placed}
use Rattle.model_index.proofs.links.links_of.Given as goal

abbrev pub invariant-loop-n : goal.invariant-loop-n
invariant-loop-n l = IsFilled (λ n numbers. (k : ℕ) → get_or numbers k None ≡ number_placed l.models n k) [] l.n l.links.items

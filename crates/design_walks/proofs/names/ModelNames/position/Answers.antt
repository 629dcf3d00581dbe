use Rattle.std.proofs.Common.{subst, List, ℕ, MatchOption, Contains, ◌≡◌, slice_get, Some}
use Rattle.design_walks.proofs.Positioned.{found}
use Rattle.design_walks.proofs.names.ModelNames.position.Goals as goal

pub returns : goal.returns
returns c =
    subst (λ (names : List (List ℕ)). MatchOption c.get_index_of.result (¬ Contains names c.args.name.now) (λ position. slice_get names position ≡ Some c.args.name.now)) c.self.view_is
    (found c.self.inside.names.keys c.args.name.now c.get_index_of.result c.get_index_of.ensures.index)

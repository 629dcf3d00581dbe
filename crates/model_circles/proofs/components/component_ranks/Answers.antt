use Rattle.std.proofs.Common.{◌≡◌, length, subst}
use Rattle.std.specs.Prelude.{IfOk}
use Rattle.model_circles.proofs.components.component_ranks.Goals as goal

pub returns : goal.returns
returns c = subst (λ n. IfOk c.ranks-ranks.result (λ ranks. length ranks.items ≡ n)) c.loop-n.invariant.notes c.ranks-ranks.ensures

use Rattle.std.proofs.Common.{sym, subst, ◌<◌, length}
use Rattle.std.specs.Prelude.{All}
use Rattle.model_circles.proofs.Naming.{others_within}
use Rattle.model_circles.proofs.fault.fault_of.Goals as goal

pub joined_names-requires-clause-others : goal.joined_names-requires-clause-others
joined_names-requires-clause-others c = subst (λ v. All (λ n. n < length c.args.models.now) v) (sym c.as_slice.ensures) (others_within c.args.models.now c.args.circle.now c.requires)

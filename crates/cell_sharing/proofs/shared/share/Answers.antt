use Rattle.cell_sharing.proofs.Sharing.{shared}
use Rattle.cell_sharing.proofs.shared.share.Goals as goal

pub returns-in-Some-clause-value : goal.returns-in-Some-clause-value
returns-in-Some-clause-value c = shared c.args.list.now c.in-Some.src c.args.cell c.in-Some.ensures

use Rattle.std.proofs.Common.{[], ◌∷◌}
use Rattle.cell_rewriting.proofs.Substituting.{extends_itself}
use Rattle.cell_rewriting.proofs.substitution.add_cell.Goals as goal

pub returns-then-not-reads_there : goal.returns-then-not-reads_there
returns-then-not-reads_there c = extends_itself c.args.list.now

pub returns-in-Ok : goal.returns-in-Ok
returns-in-Ok c = (c.args.cell ∷ [], c.in-Ok.ensures.done)

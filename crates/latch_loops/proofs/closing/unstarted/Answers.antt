use Rattle.std.proofs.Common.{rules}
use Rattle.latch_loops.proofs.Admissible.{closed_admissible, does_as_program}
use Rattle.latch_loops.proofs.closing.unstarted.Goals as goal

pub returns-clause-closed : goal.returns-clause-closed
returns-clause-closed c = search rules

pub returns-clause-admissible : goal.returns-clause-admissible
returns-clause-admissible c = closed_admissible c.args.program.now c.args.columns.items _ (search rules) c.requires.few c.requires.packed (returns-clause-closed c)

pub returns-clause-same : goal.returns-clause-same
returns-clause-same c = does_as_program c.args.program.now c.args.columns.items _ c.requires.packed (returns-clause-closed c)

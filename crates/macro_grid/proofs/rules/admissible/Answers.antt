use Rattle.macro_grid.proofs.Drawings.{drawing_fits}
use Rattle.macro_grid.proofs.rules.admissible.Goals as goal

pub returns-then-keeps_rules-clause-matched : goal.returns-then-keeps_rules-clause-matched
returns-then-keeps_rules-clause-matched c = λ yes. drawing_fits c.args.plan.now (c.keeps_rules.ensures.0 c.if-keeps_rules.true)

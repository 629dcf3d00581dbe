use Rattle.std.proofs.Common.{sym}
use Rattle.std.proofs.lemmas.Option.{none-some}
use Rattle.facing_rows.proofs.faced_cell.Goals as goal

pub returns-in-Some-set_cell-clause-none_below : goal.returns-in-Some-set_cell-clause-none_below
returns-in-Some-set_cell-clause-none_below c e x = absurd (none-some _ (sym e))

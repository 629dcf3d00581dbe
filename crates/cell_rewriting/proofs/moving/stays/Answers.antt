use Rattle.std.proofs.Common.{sym, subst}
use Rattle.cell_meaning.specs.Moved.{goes_to}
use Rattle.cell_meaning.specs.Same.{StaysCell}
use Rattle.cell_rewriting.proofs.moving.stays.Goals as goal

pub returns-in-Cell : goal.returns-in-Cell
returns-in-Cell c = λ yes. subst (λ s. StaysCell c.args.old.now c.args.new.now (goes_to c.args.news.now) s) (sym c.in-Cell.is) (c.stays_cell.ensures yes)

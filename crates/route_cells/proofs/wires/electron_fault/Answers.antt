use Rattle.std.proofs.Common.{sym}
use Rattle.std.proofs.lemmas.Option.{none-some}
use Rattle.route_cells.proofs.wires.electron_fault.Goals as goal

pub returns-in-Some : goal.returns-in-Some
returns-in-Some c = λ none. absurd (none-some _ (sym none))

pub returns-then-not-shows_end : goal.returns-then-not-shows_end
returns-then-not-shows_end c = λ none. absurd (none-some _ (sym none))

pub returns-then-not-are_clear : goal.returns-then-not-are_clear
returns-then-not-are_clear c = λ none. absurd (none-some _ (sym none))

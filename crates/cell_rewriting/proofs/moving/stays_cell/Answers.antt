use Rattle.std.proofs.Common.{rules, ◌≡◌, refl, Some, slice_get}
use Rattle.cell_core.specs.declared.cells.Src.TheVariants.{Cell as Made}
use Rattle.cell_meaning.specs.Moved.{new_source, new_cell}
use Rattle.cell_meaning.proofs.Moves.{stays_cell}
use Rattle.cell_rewriting.proofs.moving.stays_cell.Goals as goal

pub returns : goal.returns
returns c =
    let at : slice_get c.args.old.now.cells c.args.number ≡ Some c.in-Some.cell = search rules in
    let goes : new_source c.args.news.now (Made c.args.number) ≡ Some (Made c.in-Some-Cell.k) = search rules in
    let there : slice_get c.args.new.now.cells c.in-Some-Cell.k ≡ Some c.in-Some-cell_at.found = search rules in
    let by : new_cell c.args.news.now c.in-Some.cell ≡ Some c.in-Some-new_cell.wanted = search rules in
    λ yes.
    stays_cell c.args.old.now c.args.new.now c.args.news.now (Made c.args.number) c.args.number c.in-Some-Cell.k c.in-Some.cell c.in-Some-cell_at.found c.in-Some-new_cell.wanted
    refl at goes there by (c.is_same_cell.ensures yes)

use Rattle.std.proofs.Common.{◌≡◌, ◌∙◌, refl, ap, subst, length}
use Rattle.std.specs.Prelude.{Some, List, slice_get}
use Rattle.std.proofs.lemmas.Option.{slice_get_read}
use Rattle.cell_core.specs.declared.cells.Cell.{Cell}
use Rattle.route_cells.proofs.answers.is_cell.Goals as goal

pub returns-in-Some : goal.returns-in-Some
returns-in-Some c = λ t.
    let found = c.in-Some.ensures.lookup in
    let cells = c.as_slice.result.now in
    let there = slice_get_read cells (length cells) c.in-Cell.n c.in-Some.there.now refl found.3.0 found.1 in
    (c.in-Cell.n, c.in-Cell.is, subst (λ (them : List Cell). slice_get them c.in-Cell.n ≡ Some c.args.cell) c.as_slice.ensures (there ∙ ap Some (c.is_same_cell.ensures t)))

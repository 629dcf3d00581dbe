use Rattle.std.proofs.Common.{◌≡◌, ◌∙◌, List, Some, slice_get, length, refl, ap, subst}
use Rattle.std.proofs.lemmas.Option.{slice_get_read}
use Rattle.cell_core.specs.declared.cells.Cell.{Cell}
use Rattle.cell_sharing.proofs.shared.find_cell.Goals as goal

pub returns-in-Some : goal.returns-in-Some
returns-in-Some c =
    let cells = c.as_slice.result.now in
    let found = c.in-Some.ensures.lookup in
    let there : slice_get cells c.in_ok-place.place ≡ Some c.args.cell = slice_get_read cells (length cells) c.in_ok-place.place c.in-Some.found.now refl found.3.0 found.1 ∙ ap Some (c.if-is_same_cell.ensures {u = tt} refl) in
    (c.in_ok-place.place, refl, subst (λ (xs : List Cell). slice_get xs c.in_ok-place.place ≡ Some c.args.cell) c.as_slice.ensures there)

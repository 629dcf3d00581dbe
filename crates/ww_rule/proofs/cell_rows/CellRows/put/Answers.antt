use Rattle.std.proofs.Common.{sym, ap, ◌∙◌, ◌≡◌, ◌≤◌, ◌+◌, ◌*◌, [], length, get_or, take, drop, subst, slice_set, arith}
use Rattle.ww_rule.specs.Cuts.{cut_rows, with_row}
use Rattle.ww_rule.proofs.CutLemmas.{room_of_row, width_of_row, row_at_cut, set_row, length-with_row}
use Rattle.std.proofs.lemmas.List.{length-set, with_items_is}
use Rattle.ww_rule.proofs.cell_rows.CellRows.put.Goals as goal

pub put_in-requires-clause-in_cells : goal.put_in-requires-clause-in_cells
put_in-requires-clause-in_cells c =
    let r = c.self.inside in
    subst (λ cells. c.args.y * r.width + r.width ≤ length cells) (sym c.deref_mut.ensures.value) (room_of_row r.width r.count c.args.y r.cells.items c.args.self.now c.self.invariant.0 c.self.view_is c.requires.in_rows)

pub put_in-requires-clause-in_row : goal.put_in-requires-clause-in_row
put_in-requires-clause-in_row c =
    let r = c.self.inside in
    let wide : length (get_or c.args.self.now c.args.y []) ≡ r.width = width_of_row r.width r.count c.args.y r.cells.items c.args.self.now c.self.invariant.0 c.self.view_is c.requires.in_rows in
    omega (arith, c.requires.in_row)

pub returns : goal.returns
returns c =
    let r = c.self.inside in
    let rows = c.args.self.now in
    let y = c.args.y in
    let cells = r.cells.items in
    let run = λ (row : _). slice_set row c.args.x c.args.state in
    let here : get_or rows y [] ≡ take r.width (drop (y * r.width) cells) = row_at_cut r.width r.count y cells rows c.self.view_is c.requires.in_rows in
    let wide : length (get_or rows y []) ≡ r.width = width_of_row r.width r.count y cells rows c.self.invariant.0 c.self.view_is c.requires.in_rows in
    let made : c.put_in.new.cells ≡ with_row cells r.width y (run (get_or rows y [])) =
    c.put_in.ensures
    ∙ ap (λ cs. with_row cs r.width y (run (take r.width (drop (y * r.width) cs)))) c.deref_mut.ensures.value
    ∙ ap (λ row. with_row cells r.width y (run row)) (sym here) in
    let long : length (run (get_or rows y [])) ≡ r.width = length-set (get_or rows y []) c.args.x c.args.state ∙ wide in
    let room : y * r.width + r.width ≤ length cells = room_of_row r.width r.count y cells rows c.self.invariant.0 c.self.view_is c.requires.in_rows in
    let kept : length c.put_in.new.cells ≡ length cells = ap length made ∙ length-with_row r.width y cells (run (get_or rows y [])) room long in
    ap (cut_rows r.width r.count) (with_items_is r.cells c.put_in.new.cells (omega (arith, kept, r.cells.ok)) ∙ made)
    ∙ set_row r.width r.count y cells (run (get_or rows y [])) rows c.self.invariant.0 c.self.view_is c.requires.in_rows long

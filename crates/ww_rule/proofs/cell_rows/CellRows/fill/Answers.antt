use Rattle.std.proofs.Common.{sym, ap, ◌∙◌, ◌≡◌, ◌≤◌, ◌+◌, ◌*◌, [], length, get_or, take, drop, subst, arith}
use Rattle.std.proofs.lemmas.List.{with_items_is}
use Rattle.ww_rule.specs.Cuts.{cut_rows, with_row, with_run}
use Rattle.ww_rule.proofs.CutLemmas.{room_of_row, width_of_row, row_at_cut, set_row, length-with_row, length-with_run}
use Rattle.ww_rule.proofs.cell_rows.CellRows.fill.Goals as goal

pub fill_in-requires-clause-in_cells : goal.fill_in-requires-clause-in_cells
fill_in-requires-clause-in_cells c =
    let r = c.self.inside in
    subst (λ cells. c.args.y * r.width + r.width ≤ length cells) (sym c.deref_mut.ensures.value) (room_of_row r.width r.count c.args.y r.cells.items c.args.self.now c.self.invariant.0 c.self.view_is c.requires.in_rows)

pub fill_in-requires-clause-in_row : goal.fill_in-requires-clause-in_row
fill_in-requires-clause-in_row c =
    let r = c.self.inside in
    let wide : length (get_or c.args.self.now c.args.y []) ≡ r.width = width_of_row r.width r.count c.args.y r.cells.items c.args.self.now c.self.invariant.0 c.self.view_is c.requires.in_rows in
    omega (arith, c.requires.in_row)

pub returns : goal.returns
returns c =
    let r = c.self.inside in
    let rows = c.args.self.now in
    let y = c.args.y in
    let cells = r.cells.items in
    let run = λ (row : _). with_run row c.args.x c.args.count c.args.state in
    let here : get_or rows y [] ≡ take r.width (drop (y * r.width) cells) = row_at_cut r.width r.count y cells rows c.self.view_is c.requires.in_rows in
    let wide : length (get_or rows y []) ≡ r.width = width_of_row r.width r.count y cells rows c.self.invariant.0 c.self.view_is c.requires.in_rows in
    let made : c.fill_in.new.cells ≡ with_row cells r.width y (run (get_or rows y [])) =
    c.fill_in.ensures
    ∙ ap (λ cs. with_row cs r.width y (run (take r.width (drop (y * r.width) cs)))) c.deref_mut.ensures.value
    ∙ ap (λ row. with_row cells r.width y (run row)) (sym here) in
    let long : length (run (get_or rows y [])) ≡ r.width = length-with_run (get_or rows y []) c.args.x c.args.count c.args.state c.requires.in_row ∙ wide in
    let room : y * r.width + r.width ≤ length cells = room_of_row r.width r.count y cells rows c.self.invariant.0 c.self.view_is c.requires.in_rows in
    let kept : length c.fill_in.new.cells ≡ length cells = ap length made ∙ length-with_row r.width y cells (run (get_or rows y [])) room long in
    ap (cut_rows r.width r.count) (with_items_is r.cells c.fill_in.new.cells (omega (arith, kept, r.cells.ok)) ∙ made)
    ∙ set_row r.width r.count y cells (run (get_or rows y [])) rows c.self.invariant.0 c.self.view_is c.requires.in_rows long

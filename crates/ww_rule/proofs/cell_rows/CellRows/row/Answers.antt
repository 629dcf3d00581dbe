use Rattle.std.proofs.Common.{sym, ap, ◌∙◌, ◌≤◌, ◌+◌, ◌*◌, length, take, drop, subst}
use Rattle.ww_rule.proofs.CutLemmas.{row_at_cut, room_of_row}
use Rattle.ww_rule.proofs.cell_rows.CellRows.row.Goals as goal

pub row_in-requires : goal.row_in-requires
row_in-requires c =
    let r = c.self.inside in
    subst (λ cells. c.args.y * r.width + r.width ≤ length cells) (sym c.deref.ensures.value) (room_of_row r.width r.count c.args.y r.cells.items c.args.self.now c.self.invariant.0 c.self.view_is c.requires)

pub returns : goal.returns
returns c =
    let r = c.self.inside in
    c.row_in.ensures
    ∙ ap (λ cells. take r.width (drop (c.args.y * r.width) cells)) c.deref.ensures.value
    ∙ sym (row_at_cut r.width r.count c.args.y r.cells.items c.args.self.now c.self.view_is c.requires)

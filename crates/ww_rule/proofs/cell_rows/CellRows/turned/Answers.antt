use Rattle.std.proofs.Common.{◌≡◌, ◌*◌, sym, ap, ◌∙◌}
use Rattle.ww_rule.specs.Cuts.{cut_rows}
use Rattle.ww_rule.proofs.CutLemmas.{rows_alike}
use Rattle.ww_rule.proofs.OneColumn.{one_row_long, one_row_shows}
use Rattle.ww_rule.proofs.cell_rows.CellRows.turned.Goals as goal

pub columns_of-requires : goal.columns_of-requires
columns_of-requires c =
    let r = c.self.inside in rows_alike r.width r.count r.cells.items c.args.self c.self.invariant.0 c.self.view_is

pub returns-clause-long : goal.returns-clause-long
returns-clause-long c =
    let r = c.self.inside in
    let one : r.width ≡ 1 = c.if-self-ne1.false in
    one_row_long r.count r.cells.items c.args.self (ap (λ w. r.count * w) (sym one) ∙ c.self.invariant.0) (ap (λ w. cut_rows w r.count r.cells.items) (sym one) ∙ c.self.view_is)

pub returns-clause-cells : goal.returns-clause-cells
returns-clause-cells c =
    let r = c.self.inside in
    let one : r.width ≡ 1 = c.if-self-ne1.false in
    one_row_shows r.count r.cells.items c.args.self (ap (λ w. r.count * w) (sym one) ∙ c.self.invariant.0) (ap (λ w. cut_rows w r.count r.cells.items) (sym one) ∙ c.self.view_is)

use Rattle.std.proofs.Common.{sym, ap, ◌∙◌, ◌≡◌, length, arith}
use Rattle.ww_rule.proofs.CutLemmas.{length-cut}
use Rattle.ww_rule.proofs.cell_rows.CellRows.len.Goals as goal

pub returns-clause-count : goal.returns-clause-count
returns-clause-count c = sym (length-cut c.self.inside.width c.self.inside.count c.self.inside.cells.items) ∙ ap length c.self.view_is

pub returns-clause-few : goal.returns-clause-few
returns-clause-few c =
    let count : c.self.inside.count ≡ length c.args.self.now = sym (length-cut c.self.inside.width c.self.inside.count c.self.inside.cells.items) ∙ ap length c.self.view_is in
    omega (arith, c.self.invariant.1)

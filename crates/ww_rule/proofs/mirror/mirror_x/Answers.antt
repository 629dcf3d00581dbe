use Rattle.std.proofs.Common.{◌≡◌, map, reverse, subst, sym, ap, ◌∙◌}
use Rattle.ww_rule.specs.Grid.{IsGrid, plane_of}
use Rattle.ww_rule.proofs.RowLemmas.{reversed_grid, reversed_shows}
use Rattle.ww_rule.proofs.mirror.mirror_x.Goals as goal

pub invariant_of-result : goal.invariant_of-result
invariant_of-result c =
    let e : map reverse c.args.pattern.now.rows ≡ c.in_ok-rows.rows = sym c.in_ok-rows.ensures in
    record {
      in_rows = subst (IsGrid c.args.pattern.now.width c.args.pattern.now.height) e (reversed_grid c.args.pattern.now.width c.args.pattern.now.height c.args.pattern.now.rows c.args.pattern.now.in_rows);
    }

pub returns-clause-cells : goal.returns-clause-cells
returns-clause-cells c =
    ap plane_of c.in_ok-rows.ensures
    ∙ reversed_shows c.args.pattern.now.width c.args.pattern.now.height c.args.pattern.now.rows c.args.pattern.now.in_rows

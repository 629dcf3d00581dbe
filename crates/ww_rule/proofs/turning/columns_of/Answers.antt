use Rattle.std.proofs.Common.{◌≡◌, [], ap, ◌∙◌, length, get_or, arith}
use Rattle.ww_rule.proofs.Turns.{turned_rows}
use Rattle.ww_rule.proofs.turning.columns_of.Goals as goal

pub returns-clause-cells : goal.returns-clause-cells
returns-clause-cells c =
    let rows = c.args.rows.now in
    let v = c.loop-y.invariant in
    let wide : length c.row_or_none-width.result.now ≡ length (get_or rows 0 []) = ap length c.row_or_none-width.ensures in
    turned_rows rows c.loop-y.made (length (get_or rows 0 [])) c.requires (v.many ∙ wide) (λ k lt. v.long k (omega (arith, wide))) (λ u k inside lt. v.cells u k (omega (arith, c.loop-y-test.false, c.len.ensures.count)) (omega (arith, wide)))

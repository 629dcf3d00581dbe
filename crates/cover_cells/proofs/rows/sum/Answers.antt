use Rattle.std.proofs.Common.{◌≡◌, ◌<◌, ◌∙◌, subst, length, get_or, [], arith}
use Rattle.std.proofs.lemmas.List.{get_or_read}
use Rattle.cover_cells.specs.Covers.{AnswersRow}
use Rattle.cell_sharing.proofs.Growing.{all_there_after}
use Rattle.cover_cells.proofs.Sums.{row_added}
use Rattle.cover_cells.proofs.rows.sum.Goals as goal

pub product-requires : goal.product-requires
product-requires c = all_there_after c.args.list.now c.loop-row.list _ _ c.loop-row.invariant.grows c.args.sources.now c.requires

pub loop-row-preserved : goal.loop-row-preserved
loop-row-preserved c =
    let within : c.loop-row.row-index < length c.args.rows.now = omega (arith, c.loop-row-test.true) in
    let is : c.as_slice.result.now ≡ get_or c.args.rows.now c.loop-row.row-index [] = c.as_slice.ensures ∙ get_or_read c.args.rows.now c.loop-row.row-index c.row-item.result within c.row-item.is [] in
    row_added c.args.list.now c.loop-row.list c.product.new.list c.or.new.list c.args.sources.now c.args.rows.now c.loop-row.sum c.in_ok-product.product c.in_ok-sum.sum c.loop-row.row-index within c.requires c.loop-row.invariant
    (subst (λ row. AnswersRow c.loop-row.list c.product.new.list c.args.sources.now row c.in_ok-product.product) is c.in_ok-product.ensures) c.in_ok-sum.ensures

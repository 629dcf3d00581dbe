use Rattle.std.proofs.Common.{◌≡◌, ◌∙◌, sym, ap, subst, length, get_or, map, reverse, take, [], All, arith}
use Rattle.ww_rule.proofs.RowLemmas.{reversed_long}
use Rattle.ww_rule.proofs.rows.reversed.Goals as goal

pub push_row-requires : goal.push_row-requires
push_row-requires c =
    let y = c.loop-y.y in
    let rows = c.args.rows.now in
    let row : c.deref.result.now ≡ reverse (get_or rows y []) = c.deref.ensures.value ∙ c.in_ok-row.ensures ∙ ap reverse c.row.ensures in
    subst (λ mirrored. All (λ other. length other ≡ length c.deref.result.now) mirrored) (sym c.loop-y.invariant) (subst (λ r. All (λ other. length other ≡ length r) (map reverse (take y rows))) (sym row) (reversed_long rows y (omega arith) c.requires))

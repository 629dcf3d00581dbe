use Rattle.std.proofs.Common.{◌≡◌, ◌<◌, ◌+◌, ℕ, pos, [], ◌∷◌, ◌++◌, length, get_or, arith, ap, subst, sym, ◌∙◌, length-append, List}
use Rattle.std.proofs.lemmas.List.{get_or_default}
use Rattle.ww_rule.specs.declared.pattern.State.{State}
use Rattle.ww_rule.specs.declared.pattern.State.TheVariants.{Empty}
use Rattle.ww_rule.specs.Wireworld.{next_plane}
use Rattle.ww_rule.specs.Grid.{plane_of}
use Rattle.ww_rule.proofs.RowLemmas.{pushed, same_grid}
use Rattle.ww_rule.proofs.Bridge.{next_of_three, rows_show}
use Rattle.ww_rule.proofs.Cells.{next_plane_empty}
use Rattle.ww_rule.proofs.plane.step_plain.Goals as goal

pub loop-y-preserved : goal.loop-y-preserved
loop-y-preserved c =
    let old = c.args.plane.now.rows in
    let y = c.loop-y.y in
    let new = c.in_ok-next.next in
    let items : c.loop-y.rows ++ new ∷ [] ≡ c.push_row.new.self = sym (c.in_ok-push_row.ensures.pushed ∙ ap (λ r. c.loop-y.rows ++ r ∷ []) c.as_slice.ensures) in
    let row : c.row.result.now ≡ get_or old y [] = c.row.ensures in
    let under : c.row_or_none-below.result.now ≡ get_or old (y + 1) [] = c.row_or_none-below.ensures in
    let is_long = λ (k : ℕ) (r : List State). length r ≡ length (get_or old k []) in
    let is_next = λ (k : ℕ) (r : List State). (x : ℕ) → x < length (get_or old k []) → get_or r x Empty ≡ next_plane (plane_of old) (pos x) (pos k) in
    let here_long : length new ≡ length (get_or old y []) = c.in_ok-next.ensures.long ∙ ap length row in
    let here_next = λ (x : ℕ) (h : x < length (get_or old y [])). let inx : x < length c.row.result.now = subst (λ r. x < length r) (sym row) h in c.in_ok-next.ensures.cells x inx ∙ next_of_three old c.row_before-above.result.now c.row.result.now c.row_or_none-below.result.now x y c.row_before-above.ensures.first c.row_before-above.ensures.later row under in
    record {
      many = omega (arith, sym (ap length items), length-append c.loop-y.rows (new ∷ []));
      long = subst (λ rows. (k : ℕ) → k < y + 1 → is_long k (get_or rows k [])) items (pushed is_long c.loop-y.rows new [] y c.loop-y.invariant.many c.loop-y.invariant.long here_long);
      cells = subst (λ rows. (k : ℕ) → k < y + 1 → is_next k (get_or rows k [])) items (pushed is_next c.loop-y.rows new [] y c.loop-y.invariant.many c.loop-y.invariant.cells here_next);
    }

pub push_row-requires : goal.push_row-requires
push_row-requires c =
    let old = c.args.plane.now.rows in
    let y = c.loop-y.y in
    let grid = c.args.plane.now.in_rows in
    let new : length c.as_slice.result.now ≡ c.args.plane.now.width = ap length c.as_slice.ensures ∙ c.in_ok-next.ensures.long ∙ ap length c.row.ensures ∙ grid.long y [] (omega arith) in
    λ k d h. ap length (get_or_default c.loop-y.rows k d [] h) ∙ c.loop-y.invariant.long k (omega arith) ∙ grid.long k [] (omega arith) ∙ sym new

pub invariant_of-result : goal.invariant_of-result
invariant_of-result c =
    let p = c.args.plane.now in
    record { in_rows = same_grid p.width p.height p.rows c.loop-y.rows p.in_rows (omega arith) (λ k h. c.loop-y.invariant.long k (omega arith)) }

pub returns-clause-cells : goal.returns-clause-cells
returns-clause-cells c =
    let old = c.args.plane.now.rows in
    rows_show (next_plane (plane_of old)) old c.loop-y.rows (omega arith) (λ k h. c.loop-y.invariant.long k (omega arith)) (λ x y e. next_plane_empty (plane_of old) x y e) (λ k h x inx. c.loop-y.invariant.cells k (omega arith) x inx)

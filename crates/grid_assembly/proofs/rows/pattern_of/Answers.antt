use Rattle.std.proofs.Common.{rules, ◌≡◌, ◌∙◌, sym, ap, ap₂, subst, map, length, arith, drop, take_all, [], ◌∷◌, ◌++◌, All}
use Rattle.std.specs.List.{range_with_len}
use Rattle.std.proofs.lemmas.List.{take-append-le}
use Rattle.std.proofs.lemmas.List.FromFn.{map-range_with_len_more}
use Rattle.ww_rule.specs.Grid.{IsGrid}
use Rattle.grid_assembly.specs.PlanDrawing.{start_row, start_grid}
use Rattle.grid_assembly.proofs.Pattern.{row_is, is_grid, rows_long}
use Rattle.grid_assembly.proofs.rows.pattern_of.Goals as goal
use Rattle.lane_core.specs.Plans.{size_of}

pub push_row-requires : goal.push_row-requires
push_row-requires c =
    let plan = c.args.plan.now in
    let cells = c.fill_row.new.row in
    let kept : length cells ≡ c.in_ok-row.row.len = search rules in
    let whole : c.deref.result.now ≡ cells =
    c.deref.ensures.value ∙ take-append-le c.in_ok-row.row.len cells (drop (length cells) c.in_ok-row.row.items) (omega (arith, kept)) ∙ take_all c.in_ok-row.row.len cells (omega (arith, kept)) in
    let wide : length c.deref.result.now ≡ (size_of plan).0 = ap length whole ∙ kept ∙ c.in_ok-row.ensures.len ∙ ap (λ s. s.0) c.size-width.ensures.exact in
    subst (All (λ other. length other ≡ length c.deref.result.now)) (sym c.loop-y.invariant) (subst (λ n. All (λ other. length other ≡ n) (map (start_row plan) (range_with_len 0 c.loop-y.y))) (sym wide) (rows_long plan c.loop-y.y))

pub loop-y-preserved : goal.loop-y-preserved
loop-y-preserved c =
    let plan = c.args.plan.now in
    let y = c.loop-y.y in
    let cells = c.fill_row.new.row in
    let wide : c.size-width.result.0 ≡ (size_of plan).0 = ap (λ s. s.0) c.size-width.ensures.exact in
    let kept : length cells ≡ c.in_ok-row.row.len = search rules in
    let whole : c.deref.result.now ≡ cells =
    c.deref.ensures.value ∙ take-append-le c.in_ok-row.row.len cells (drop (length cells) c.in_ok-row.row.items) (omega (arith, kept)) ∙ take_all c.in_ok-row.row.len cells (omega (arith, kept)) in
    c.in_ok-push_row.ensures.pushed
    ∙ ap₂ (λ rows row. rows ++ row ∷ []) c.loop-y.invariant (whole ∙ row_is plan y cells (kept ∙ c.in_ok-row.ensures.len ∙ wide) c.fill_row.ensures)
    ∙ sym (map-range_with_len_more (start_row plan) 0 y y (omega arith))

pub invariant_of-result : goal.invariant_of-result
invariant_of-result c =
    let plan = c.args.plan.now in
    let exact = c.size-width.ensures.exact in
    let height : c.size-width.result.1 ≡ (size_of plan).1 = ap (λ s. s.1) exact in
    let all : c.loop-y.y ≡ (size_of plan).1 = omega (arith, height, c.loop-y.auto.y-end, c.loop-y-test.false) in
    let rows : c.loop-y.rows ≡ (start_grid plan).rows = c.loop-y.invariant ∙ ap (λ n. map (start_row plan) (range_with_len 0 n)) all in
    record { in_rows = subst (λ s. IsGrid s.0 s.1 c.loop-y.rows) (sym exact) (subst (IsGrid (size_of plan).0 (size_of plan).1) (sym rows) (is_grid plan)) }

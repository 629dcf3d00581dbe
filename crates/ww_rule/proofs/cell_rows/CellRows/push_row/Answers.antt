use Rattle.std.proofs.Common.{sym, ap, ◌∙◌, ◌≡◌, ◌++◌, ◌*◌, ◌+◌, suc, [], ◌∷◌, length, All, subst, arith}
use Rattle.ww_rule.specs.Cuts.{cut_rows}
use Rattle.ww_rule.proofs.CutLemmas.{pushed_cells, pushed_cut}
use Rattle.ww_rule.proofs.cell_rows.CellRows.push_row.Goals as goal

pub invariant_of-self-2 : goal.invariant_of-self-2
invariant_of-self-2 c =
    let r = c.self.inside in
    let row = c.args.row.now in
    let long : All (λ other. length other ≡ length row) (cut_rows r.width r.count r.cells.items) = subst (All (λ other. length other ≡ length row)) (sym c.self.view_is) c.requires in
    let count : r.count + 1 ≡ suc r.count = omega arith in
    let whole : (r.count + 1) * length row ≡ length c.extend_from_slice.new.self.items =
    ap (λ n. n * length row) count
    ∙ pushed_cells r.width r.count r.cells.items row c.self.invariant.0 long
    ∙ sym (ap length c.in_ok-extend_from_slice.ensures.items) in
    (whole, omega arith)

pub returns-clause-pushed : goal.returns-clause-pushed
returns-clause-pushed c =
    let r = c.self.inside in
    let row = c.args.row.now in
    let long : All (λ other. length other ≡ length row) (cut_rows r.width r.count r.cells.items) = subst (All (λ other. length other ≡ length row)) (sym c.self.view_is) c.requires in
    let count : r.count + 1 ≡ suc r.count = omega arith in
    ap (λ n. cut_rows (length row) n c.extend_from_slice.new.self.items) count
    ∙ ap (cut_rows (length row) (suc r.count)) c.in_ok-extend_from_slice.ensures.items
    ∙ pushed_cut r.width r.count r.cells.items row c.self.invariant.0 long
    ∙ ap (λ rows. rows ++ row ∷ []) c.self.view_is

use Rattle.std.proofs.Common.{ap, ◌∙◌, ◌≡◌, ◌*◌, replicate}
use Rattle.ww_rule.specs.Cuts.{cut_rows}
use Rattle.ww_rule.specs.declared.pattern.State.TheVariants.{Empty}
use Rattle.ww_rule.proofs.CutLemmas.{cut_blank}
use Rattle.ww_rule.proofs.cell_rows.CellRows.blank.Goals as goal

pub returns : goal.returns
returns c =
    let many : c.in-Some.cells ≡ c.args.count * c.args.width = c.in-Some.ensures.1 in
    ap (cut_rows c.args.width c.args.count) (c.in_ok-empty_cells.ensures ∙ ap (λ k. replicate k Empty) many)
    ∙ cut_blank c.args.width c.args.count Empty

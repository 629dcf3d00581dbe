use Rattle.std.proofs.Common.{◌∙◌, List, ◌++◌, take, All, sym, subst, ap, ap₂}
use Rattle.rle_write.specs.declared.rows.Run.{Run}
use Rattle.rle_write.specs.Runs.{IsCellRun, spelled}
use Rattle.rle_write.proofs.StretchCells.{spelled_put, cells_put}
use Rattle.rle_write.proofs.block_rows.BlockRows.put_row.Goals as goal

pub returns-clause-cells : goal.returns-clause-cells
returns-clause-cells c =
    cells_put c.keep-place.new.self.runs c.put_runs.new.runs c.runs-more.result.now c.args.before c.put_runs.ensures.runs
    (subst (λ (runs : List Run). All IsCellRun (take c.args.before runs)) (sym c.keep-place.ensures.runs) c.requires.cells)
    (subst (All IsCellRun) (sym c.runs-more.ensures.runs) c.runs-more.ensures.cells)

pub returns-clause-runs : goal.returns-clause-runs
returns-clause-runs c =
    spelled_put c.keep-place.new.self.runs c.put_runs.new.runs c.runs-more.result.now c.args.before c.put_runs.ensures.runs
    ∙ ap₂ (λ a b. a ++ b) (ap (λ runs. spelled (take c.args.before runs)) c.keep-place.ensures.runs)
    (ap spelled c.runs-more.ensures.runs ∙ c.keep-place.ensures.row c.index-self-place.result)

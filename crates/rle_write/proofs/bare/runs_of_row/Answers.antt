use Rattle.std.proofs.Common.{◌<◌, ◌++◌, ℕ, length, replicate, sym, ap, ap₂, ◌∙◌, arith}
use Rattle.std.proofs.lemmas.List.{length-set}
use Rattle.plan_layout.specs.Slots.{slot_of}
use Rattle.rle_write.proofs.StretchCells.{cells_more, row_more, spelled_more}
use Rattle.rle_write.proofs.bare.runs_of_row.Goals as goal

pub cells-preserved : goal.cells-preserved
cells-preserved c =
    let run = c.slot_run-state.ensures in
    let count : ℕ = c.slot_run-state.result.1 in
    let lt : c.cells.found < length c.cells.runs = omega (arith, c.cells.invariant.few, c.cells.invariant.size, c.requires.room, c.cells-test.true) in
    record {
      within = omega (arith, run.within, c.cells-test.true);
      few = omega (arith, c.cells.invariant.few, run.some);
      size = length-set c.cells.runs c.cells.found _ ∙ c.cells.invariant.size;
      cells = cells_more c.cells.runs c.cells.found _ lt c.cells.invariant.cells (record { some = run.some; cell = c.cell_tag.ensures.cell });
      spelled =
          spelled_more c.cells.runs c.cells.found _ lt
          ∙ ap₂ (λ a b. a ++ b) c.cells.invariant.spelled (ap (λ t. replicate count t) c.cell_tag.ensures.tag)
          ∙ sym (row_more (slot_of c.args.slot) c.args.y c.cells.x c.slot_run-state.result.0 count run);
    }

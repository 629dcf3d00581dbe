use Rattle.std.proofs.Common.{ℕ, ◌/◌, sym, subst}
use Rattle.band_core.specs.Bands.{IsCellOf}
use Rattle.band_core.proofs.Cells.{is_cell}
use Rattle.pattern_tests.proofs.bands.shown.letter_at.Goals as goal

pub cell-requires : goal.cell-requires
cell-requires c =
    let bands = c.args.bands.now in
    subst (λ (h : ℕ). IsCellOf bands (c.args.y / h) c.args.x c.args.y) (sym c.requires.height) (is_cell bands c.bands-count.ensures.whole c.args.y c.args.x c.requires.column c.requires.row)

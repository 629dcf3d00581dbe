use Rattle.band_core.proofs.BandFields.{narrow_row}
use Rattle.band_core.proofs.moving.step_beside.Goals as goal

pub step-requires-clause-above : goal.step-requires-clause-above
step-requires-clause-above c = narrow_row c.row_above-above.result c.args.band.now.field.columns (c.requires.rows.long_above _ c.row_above-above.ensures)

pub step-requires-clause-below : goal.step-requires-clause-below
step-requires-clause-below c = narrow_row c.row_below-below.result c.args.band.now.field.columns (c.requires.rows.long_below _ c.row_below-below.ensures)

pub returns-clause-shows : goal.returns-clause-shows
returns-clause-shows c e due width height evo shows rows =
    c.step.ensures.shows e due width height evo shows
    (record { above = rows.above _ c.row_above-above.ensures; below = rows.below _ c.row_below-below.ensures })

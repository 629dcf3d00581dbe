use Rattle.rle_read.specs.Drawn.{place_of, drawn_of}
use Rattle.pattern_reading.specs.Items.{Cells}
use Rattle.rle_read.proofs.Runs.{run_inside, run_in_rows}
use Rattle.rle_read.proofs.drawing.Drawing.draw_run.Goals as goal

pub fill-requires-clause-in_rows : goal.fill-requires-clause-in_rows
fill-requires-clause-in_rows c =
    let d = drawn_of c.args.self.now in
    let place = place_of 0 d (Cells c.args.count c.args.state) in
    let box = run_inside d.width d.height place c.args.count c.args.state c.in_default.not-Empty c.requires.sound in
    let fits = run_in_rows d.width d.height d.rows d.x d.y c.args.count c.requires.in_rows c.requires.counted box.0 box.1 in
    fits.0

pub fill-requires-clause-in_row : goal.fill-requires-clause-in_row
fill-requires-clause-in_row c =
    let d = drawn_of c.args.self.now in
    let place = place_of 0 d (Cells c.args.count c.args.state) in
    let box = run_inside d.width d.height place c.args.count c.args.state c.in_default.not-Empty c.requires.sound in
    let fits = run_in_rows d.width d.height d.rows d.x d.y c.args.count c.requires.in_rows c.requires.counted box.0 box.1 in
    fits.1

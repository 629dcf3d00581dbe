use Rattle.band_rows.proofs.FacedFields.{settled_shows}
use Rattle.band_rows.proofs.GoneOn.{gone_same}
use Rattle.band_rows.proofs.Same.{same_items}
use Rattle.band_rows.proofs.field.Field.run.Goals as goal

pub returns : goal.returns
returns c =
    let s = c.settle.ensures in
    let r = c.run_settled.ensures in
    let gone = gone_same c.run_settled.result c.args.self.now c.settle.new.self c.run_settled.new.self s.size
    (settled_shows c.args.self.now c.settle.new.self s.size (same_items s.heads) (same_items s.tails) (same_items s.cells)) r.gone in
    record { some = r.some; few = r.few; gone = gone }

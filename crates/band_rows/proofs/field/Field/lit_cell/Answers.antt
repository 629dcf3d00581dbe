use Rattle.std.proofs.Common.{refl}
use Rattle.band_rows.proofs.LitFields.{unlit_words}
use Rattle.band_rows.proofs.field.Field.lit_cell.Goals as goal

pub returns-in-None-clause-none : goal.returns-in-None-clause-none
returns-in-None-clause-none c is = unlit_words c.args.self.now (c.in-None.ensures.none refl)

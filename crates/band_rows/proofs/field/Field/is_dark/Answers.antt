use Rattle.std.proofs.Common.{◌<◌, arith}
use Rattle.std.proofs.lemmas.Bool.{ltb-true}
use Rattle.band_rows.proofs.LitFields.{unmarked_dark}
use Rattle.band_rows.proofs.field.Field.is_dark.Goals as goal

pub returns-then-self-eq0 : goal.returns-then-self-eq0
returns-then-self-eq0 c some =
    let n = c.len.ensures in
    let lt : 0 < c.len.result = ltb-true 0 c.len.result some in
    unmarked_dark c.args.self.now c.requires.closed c.if-self-eq0.true (omega (arith, lt, n))

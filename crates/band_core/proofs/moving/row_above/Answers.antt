use Rattle.std.proofs.Common.{sym, subst, length, arith}
use Rattle.std.proofs.lemmas.Bool.{eqb-false}
use Rattle.band_core.specs.Beside.{HasRows}
use Rattle.band_core.proofs.moving.row_above.Goals as goal

pub bottom_heads-requires : goal.bottom_heads-requires
bottom_heads-requires c =
    let some = eqb-false (length c.args.before.now) 0 (sym c.if-is_empty.ensures) in
    record { rows = subst HasRows (sym c.index-before-before.is) (c.requires.some c.index-before-before.result (omega (arith, some))) }

use Rattle.std.proofs.Common.{sym, subst, length, arith}
use Rattle.std.proofs.lemmas.Bool.{eqb-false}
use Rattle.band_core.specs.Beside.{HasRows}
use Rattle.band_core.proofs.moving.row_below.Goals as goal

pub top_heads-requires : goal.top_heads-requires
top_heads-requires c =
    let some = eqb-false (length c.args.after.now) 0 (sym c.if-is_empty.ensures) in
    record { rows = subst HasRows (sym c.index-after-0.is) (c.requires.some c.index-after-0.result (omega (arith, some))) }

use Rattle.std.proofs.Common.{below_more, length, subst}
use Rattle.route_tables.specs.Serials.{MayTouch}
use Rattle.route_tables.proofs.serials.row_touches_well.Goals as goal

pub loop-i-preserved : goal.loop-i-preserved
loop-i-preserved c =
    let t = c.args.tables.now in
    below_more _ _ c.loop-i.invariant (subst (MayTouch t.groups (length t.gates) c.args.n) c.serial_before-serial.ensures (c.may_touch.ensures c.if-not-may_touch.false))

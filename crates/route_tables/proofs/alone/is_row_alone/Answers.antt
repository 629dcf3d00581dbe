use Rattle.std.proofs.Common.{below_more, subst}
use Rattle.route_tables.specs.Around.{IsOneOf}
use Rattle.route_tables.proofs.alone.is_row_alone.Goals as goal

pub loop-i-preserved : goal.loop-i-preserved
loop-i-preserved c =
    below_more _ _ c.loop-i.invariant (subst (IsOneOf c.args.serials) c.serial_before-serial.ensures (c.is_one_of.ensures c.if-not-is_one_of.false))

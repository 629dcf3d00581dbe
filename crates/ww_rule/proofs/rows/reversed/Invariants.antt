use Rattle.std.proofs.Common.{◌≡◌, map, reverse, take}
use Rattle.ww_rule.proofs.rows.reversed.Given as goal

abbrev pub invariant-loop-y : goal.invariant-loop-y
invariant-loop-y l = l.mirrored ≡ map reverse (take l.y l.rows)

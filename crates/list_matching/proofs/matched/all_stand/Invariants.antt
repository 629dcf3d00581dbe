use Rattle.std.proofs.Common.{◌≡◌, map, take}
use Rattle.list_matching.specs.Matched.{stand_in}
use Rattle.list_matching.proofs.matched.all_stand.Given as goal

abbrev pub invariant-loop-i : goal.invariant-loop-i
invariant-loop-i l = map (stand_in l.cells l.latches) (take l.i l.first) ≡ take l.i l.others

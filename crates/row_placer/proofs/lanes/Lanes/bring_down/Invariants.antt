use Rattle.std.proofs.Common.{◌≤◌, ◌-◌}
use Rattle.channel_router.specs.Routes.{brought, distance}
use Rattle.row_placer.specs.Steps.{KeepsGates, MovesTags}
use Rattle.row_placer.proofs.lanes.Lanes.bring_down.Given as goal

abbrev pub invariant-loop-at : goal.invariant-loop-at
invariant-loop-at l = record {
  moved : MovesTags l.fn.self l.self (brought l.fn.from l.at) (distance l.fn.from l.at);
  low : l.fn.from ≤ l.at;
  high : l.at ≤ l.fn.to;
  kept : KeepsGates l.fn.self l.self;
}

abbrev pub decreases-loop-at : goal.decreases-loop-at
decreases-loop-at l = l.fn.to - l.at

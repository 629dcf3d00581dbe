use Rattle.std.proofs.Common.{◌-◌, ◌<◌, ℕ, ◌≤◌}
use Rattle.channel_router.specs.Routes.{Brings}
use Rattle.channel_router.proofs.route.bring.Given as goal

pub record Down (lanes from to at : ℕ) : Type 0 where
  pub order : from ≤ at
  pub within : at < lanes
  pub soon : to < at → at ≤ from

pub record Up (lanes from to at : ℕ) : Type 0 where
  pub order : to ≤ at
  pub within : at < lanes
  pub soon : to < at → at ≤ from

abbrev pub invariant-loop-at : goal.invariant-loop-at
invariant-loop-at l = Brings l.fn.lanes l.fn.from l.at l.instrs.items × Down l.fn.lanes l.fn.from l.fn.to l.at

abbrev pub decreases-loop-at : goal.decreases-loop-at
decreases-loop-at l = l.to - l.at

abbrev pub invariant-loop-at-2 : goal.invariant-loop-at-2
invariant-loop-at-2 l = Brings l.fn.lanes l.fn.from l.at l.instrs.items × Up l.fn.lanes l.fn.from l.fn.to l.at

abbrev pub decreases-loop-at-2 : goal.decreases-loop-at-2
decreases-loop-at-2 l = l.at - l.to

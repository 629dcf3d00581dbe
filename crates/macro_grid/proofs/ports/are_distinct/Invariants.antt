use Rattle.std.proofs.Common.{◌-◌, ◌^◌}
use Rattle.macro_grid.specs.Spans.{AreDistinctWithin}
use Rattle.macro_grid.proofs.ports.are_distinct.Given as goal

abbrev pub invariant-loop-least : goal.invariant-loop-least
invariant-loop-least l = AreDistinctWithin 0 l.from l.lanes

abbrev pub decreases-loop-least : goal.decreases-loop-least
decreases-loop-least l = 2 ^ 32 - l.from

use Rattle.std.proofs.Common.{None}
use Rattle.lists.proofs.Fills.{IsFilled}
use Rattle.loop_check.specs.Links.{IsDriverOf}
use Rattle.loop_check.proofs.links.drivers_of.Given as goal

abbrev pub invariant-loop-input : goal.invariant-loop-input
invariant-loop-input l = IsFilled (IsDriverOf l.flat l.n) None l.input l.drivers.items

use Rattle.std.proofs.Common.{[]}
use Rattle.lists.proofs.Fills.{IsFilled}
use Rattle.loop_check.specs.Links.{AreDriversOf}
use Rattle.loop_check.proofs.links.links_of.Given as goal

abbrev pub invariant-loop-n : goal.invariant-loop-n
invariant-loop-n l = IsFilled (AreDriversOf l.flat) [] l.n l.links.items

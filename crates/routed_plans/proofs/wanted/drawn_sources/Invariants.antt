use Rattle.std.proofs.Common.{◌≡◌, take}
use Rattle.routed_plans.specs.Drawn.{items_drawn}
use Rattle.routed_plans.proofs.wanted.drawn_sources.Given as goal

abbrev pub invariant-loop-k : goal.invariant-loop-k
invariant-loop-k l = l.sources.items ≡ items_drawn l.ports (take l.k l.nets)

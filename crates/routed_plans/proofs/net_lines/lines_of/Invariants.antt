use Rattle.std.proofs.Common.{◌≡◌, map, take}
use Rattle.place_paths.specs.Paths.{names_and_paths}
use Rattle.routed_plans.specs.Drawn.{items_drawn}
use Rattle.routed_plans.proofs.ListedNets.{words_of}
use Rattle.routed_plans.proofs.net_lines.lines_of.Given as goal

abbrev pub invariant-loop-k : goal.invariant-loop-k
invariant-loop-k l = names_and_paths l.lines.items ≡ items_drawn l.ports (map words_of (take l.k l.nets))

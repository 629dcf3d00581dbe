use Rattle.std.proofs.Common.{◌≡◌, take}
use Rattle.std.specs.List.{filter_map}
use Rattle.cover_mapper.specs.Singles.{single_source}
use Rattle.cover_mapper.proofs.singles.sources_of_singles.Given as goal

abbrev pub invariant-loop-node : goal.invariant-loop-node
invariant-loop-node l = l.found.items ≡ filter_map (single_source l.flat l.sources) (take l.node-index l.nodes)

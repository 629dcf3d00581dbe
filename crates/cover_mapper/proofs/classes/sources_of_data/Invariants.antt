use Rattle.std.proofs.Common.{◌≡◌, map, take}
use Rattle.netlist_meaning.specs.Flat.{class_of}
use Rattle.cover_mapper.specs.Sourced.{sources_at}
use Rattle.cover_mapper.proofs.classes.sources_of_data.Given as goal

abbrev pub invariant-loop-latch : goal.invariant-loop-latch
invariant-loop-latch l = l.found.items ≡ sources_at l.sources (map (λ latch. class_of l.flat latch.input) (take l.latch-index l.latches))

use Rattle.std.proofs.Common.{◌≡◌, map, take}
use Rattle.netlist_meaning.specs.Flat.{class_of}
use Rattle.cover_mapper.specs.Sourced.{sources_at}
use Rattle.cover_mapper.proofs.classes.sources_of_nets.Given as goal

abbrev pub invariant-loop-id : goal.invariant-loop-id
invariant-loop-id l = l.found.items ≡ sources_at l.sources (map (class_of l.flat) (take l.id-index l.ids))

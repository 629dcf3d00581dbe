use Rattle.std.proofs.Common.{◌≡◌, map, take}
use Rattle.netlist_core.specs.declared.flat.Net.{Net as FlatNet}
use Rattle.cover_mapper.specs.Sourced.{sources_at}
use Rattle.cover_mapper.proofs.classes.sources_of_all.Given as goal

abbrev pub invariant-loop-net : goal.invariant-loop-net
invariant-loop-net l = l.found.items ≡ sources_at l.sources (map (λ (net : FlatNet). net.class) (take l.net-index l.nets))

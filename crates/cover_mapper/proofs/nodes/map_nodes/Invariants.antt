use Rattle.std.proofs.Common.{take}
use Rattle.cover_mapper.specs.Sourced.{AreMapped}
use Rattle.cover_mapper.proofs.nodes.map_nodes.Given as goal

abbrev pub invariant-loop-n : goal.invariant-loop-n
invariant-loop-n l = AreMapped l.flat l.fn.list l.list l.sources (take l.n-index l.order)

use Rattle.std.proofs.Common.{◌≡◌, ◌+◌, ◌++◌, map, take, length}
use Rattle.aiger_meaning.specs.FlatOf.{nodes_from, buffer}
use Rattle.aiger_meaning.proofs.nodes.push_buffers.Given as goal

abbrev pub invariant-loop-lit : goal.invariant-loop-lit
invariant-loop-lit l = l.nodes.items ≡ l.fn.nodes.items ++ nodes_from l.aig (length l.aig.inputs + length l.aig.latches + length l.fn.nodes.items) (map buffer (take l.lit-index l.lits))

use Rattle.plan_layout.specs.Edges.{as_edge}
use Rattle.latch_loops.proofs.Near.{IsWalked}
use Rattle.latch_loops.proofs.loop_starts.push_loop.Given as goal

-- the starts so far, and the edge that comes next
abbrev pub invariant-loop-bits : goal.invariant-loop-bits
invariant-loop-bits l = IsWalked l.plan l.starts l.number l.initial.found.items l.found.items (as_edge l.edge) l.bits-index

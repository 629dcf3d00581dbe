use Rattle.tiling.specs.Tiling.Edge.{Above}
use Rattle.plan_layout.specs.Tape.{drawn_edges}
use Rattle.macro_grid.specs.Edges.{TellEdges}
use Rattle.macro_grid.proofs.edges.light_above.Given as goal

abbrev pub invariant-loop-i : goal.invariant-loop-i
invariant-loop-i l = TellEdges l.i l.lanes Above l.bits (drawn_edges l.plan)

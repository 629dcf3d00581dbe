use Rattle.tiling.specs.Tiling.Edge.{Beside}
use Rattle.tiling.specs.MacroStep.{macro_step}
use Rattle.macro_grid.specs.Edges.{TellEdges, lit_of}
use Rattle.plan_layout.specs.Tape.{drawn_tiling}
use Rattle.macro_grid.proofs.step.step_beside.Given as goal

abbrev pub invariant-loop-i : goal.invariant-loop-i
invariant-loop-i l = TellEdges l.i l.lanes Beside l.bits (macro_step (drawn_tiling l.plan) (lit_of l.old))

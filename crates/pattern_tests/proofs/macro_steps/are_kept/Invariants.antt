use Rattle.macro_grid.specs.Edges.{IsEdgesOf}
use Rattle.pattern_tests.proofs.macro_steps.are_kept.Given as goal

abbrev pub invariant-loop-steps : goal.invariant-loop-steps
invariant-loop-steps l = record { edges : IsEdgesOf l.plan l.edges; following : IsEdgesOf l.plan l.following }

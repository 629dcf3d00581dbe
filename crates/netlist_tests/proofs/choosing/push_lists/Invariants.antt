use Rattle.std.specs.Prelude.{All}
use Rattle.cell_plans.specs.PlanOf.{IsPlannable}
use Rattle.netlist_tests.proofs.choosing.push_lists.Given as goal

abbrev pub invariant-loop-cells : goal.invariant-loop-cells
invariant-loop-cells l = All IsPlannable l.lists.items

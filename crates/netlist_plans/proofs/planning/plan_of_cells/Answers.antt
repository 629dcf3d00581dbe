use Rattle.std.proofs.Common.{List, subst, sym}
use Rattle.std.proofs.lemmas.Result.{err_from_is_err_and}
use Rattle.std.specs.Prelude.{All}
use Rattle.cell_core.specs.declared.list.CellList.{CellList}
use Rattle.cell_plans.specs.PlanOf.{IsPlanOfOne, IsPlannable}
use Rattle.netlist_plans.proofs.OfOne.{is_planned, all_short}
use Rattle.netlist_plans.proofs.Sparing.{no_loop}
use Rattle.netlist_plans.proofs.planning.plan_of_cells.Goals as goal

pub best_plan-requires-clause-short : goal.best_plan-requires-clause-short
best_plan-requires-clause-short c =
    subst (λ (l : List CellList). All IsPlannable l) (sym c.deref.ensures.value)
    (all_short c.args.flat.now c.in_ok-lists.lists.items c.requires.weighed c.requires.small c.in_ok-lists.ensures.computes)

pub returns-in_err-lists : goal.returns-in_err-lists
returns-in_err-lists c =
    let p = (err_from_is_err_and c.from_residual.result c.from_residual.ensures.1).1 in
    record { planned = rw p tt; spares = rw p tt }

pub returns-in_err-chosen : goal.returns-in_err-chosen
returns-in_err-chosen c =
    let p = (err_from_is_err_and c.from_residual-in_err-chosen.result c.from_residual-in_err-chosen.ensures.1).1 in
    record { planned = rw p tt; spares = rw p tt }

pub returns-clause-planned : goal.returns-clause-planned
returns-clause-planned c =
    is_planned c.args.flat.now c.in_ok-lists.lists.items c.in_ok-chosen.chosen.list c.in_ok-chosen.chosen.plan c.in_ok-lists.ensures.computes
    (subst (λ (l : List CellList). IsPlanOfOne l c.in_ok-chosen.chosen.list c.in_ok-chosen.chosen.plan) c.deref.ensures.value c.in_ok-chosen.ensures)

pub returns-clause-spares : goal.returns-clause-spares
returns-clause-spares c s =
    no_loop c.args.flat.now c.in_ok-lists.lists.items c.in_ok-chosen.chosen.list c.in_ok-chosen.chosen.plan c.requires.weighed s.latches c.in_ok-lists.ensures.computes
    (c.in_ok-lists.ensures.spares s) (subst (λ (l : List CellList). IsPlanOfOne l c.in_ok-chosen.chosen.list c.in_ok-chosen.chosen.plan) c.deref.ensures.value c.in_ok-chosen.ensures)

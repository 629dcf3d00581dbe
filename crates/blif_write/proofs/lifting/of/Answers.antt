use Rattle.std.proofs.Common.{◌≡◌, sym, subst, false}
use Rattle.std.proofs.lemmas.Result.{IfOk-weaker, err_from_is_err_and}
use Rattle.cell_core.specs.declared.list.CellList.{CellList}
use Rattle.cell_core.specs.Loops.{names_one}
use Rattle.cell_meaning.specs.Computes.{ComputesByPlan}
use Rattle.circuit_plans.specs.Circuits.{without_nets}
use Rattle.circuit_plans.specs.Lists.{IsListOf}
use Rattle.blif_write.specs.declared.lift.Lift.{Lift}
use Rattle.blif_write.specs.Lift.{IsLiftOf, IsLiftOfCells}
use Rattle.blif_write.proofs.lifting.of.Goals as goal

pub returns-clause-lift : goal.returns-clause-lift
returns-clause-lift c =
    let plan = c.args.plan.now in
    let ports = c.args.ports.now in
    IfOk-weaker c.of_cells.result (IsLiftOfCells c.in_ok-list.list ports) (IsLiftOf plan ports)
    (λ (lift : Lift) (same : IsLiftOfCells c.in_ok-list.list ports lift). record { cells = subst (IsListOf plan) (sym same.cells) c.in_ok-list.ensures.list; ins = same.ins; outs = same.outs }) c.of_cells.ensures.lift

pub returns-clause-computes : goal.returns-clause-computes
returns-clause-computes c =
    let plan = c.args.plan.now in
    let ports = c.args.ports.now in
    IfOk-weaker c.of_cells.result (IsLiftOfCells c.in_ok-list.list ports) (λ (lift : Lift). ComputesByPlan lift.list (without_nets plan))
    (λ (lift : Lift) (same : IsLiftOfCells c.in_ok-list.list ports lift). subst (λ (list : CellList). ComputesByPlan list (without_nets plan)) (sym same.cells) c.in_ok-list.ensures.computes) c.of_cells.ensures.lift

pub returns-clause-no_one : goal.returns-clause-no_one
returns-clause-no_one c =
    let ports = c.args.ports.now in
    IfOk-weaker c.of_cells.result (IsLiftOfCells c.in_ok-list.list ports) (λ (lift : Lift). names_one lift.list ≡ false)
    (λ (lift : Lift) (same : IsLiftOfCells c.in_ok-list.list ports lift). subst (λ (list : CellList). names_one list ≡ false) (sym same.cells) c.in_ok-list.ensures.no_one) c.of_cells.ensures.lift

pub returns-in_err-list-clause-lift : goal.returns-in_err-list-clause-lift
returns-in_err-list-clause-lift c = rw ((err_from_is_err_and c.from_residual.result c.from_residual.ensures.1).1) tt

pub returns-in_err-list-clause-computes : goal.returns-in_err-list-clause-computes
returns-in_err-list-clause-computes c = rw ((err_from_is_err_and c.from_residual.result c.from_residual.ensures.1).1) tt

pub returns-in_err-list-clause-no_one : goal.returns-in_err-list-clause-no_one
returns-in_err-list-clause-no_one c = rw ((err_from_is_err_and c.from_residual.result c.from_residual.ensures.1).1) tt

pub returns-in_err-list-clause-few : goal.returns-in_err-list-clause-few
returns-in_err-list-clause-few c = rw ((err_from_is_err_and c.from_residual.result c.from_residual.ensures.1).1) tt

use Rattle.std.proofs.Common.{◌≡◌, false}
use Rattle.std.proofs.lemmas.Result.{IfOk-weaker}
use Rattle.cell_core.specs.declared.list.CellList.{CellList}
use Rattle.cell_core.specs.Loops.{names_one}
use Rattle.cell_meaning.specs.Computes.{ComputesByPlan}
use Rattle.circuit_plans.specs.Circuits.{first_bits, without_nets}
use Rattle.circuit_plans.specs.Lists.{IsListOf}
use Rattle.circuit_plans.proofs.Whole.{computes_bare, is_plain}
use Rattle.circuit_plans.proofs.lifting.cells_of.Goals as goal

pub returns-clause-computes : goal.returns-clause-computes
returns-clause-computes c =
    IfOk-weaker c.list_of.result (IsListOf c.args.plan.now) (λ (list : CellList). ComputesByPlan list (without_nets c.args.plan.now))
    (λ list is. computes_bare c.args.plan.now c.requires.admissible list is) c.list_of.ensures

pub returns-clause-starts : goal.returns-clause-starts
returns-clause-starts c =
    IfOk-weaker c.list_of.result (IsListOf c.args.plan.now) (λ (list : CellList). list.starts ≡ first_bits c.args.plan.now) (λ list is. is.starts) c.list_of.ensures

pub returns-clause-no_one : goal.returns-clause-no_one
returns-clause-no_one c =
    IfOk-weaker c.list_of.result (IsListOf c.args.plan.now) (λ (list : CellList). names_one list ≡ false) (λ list is. is_plain c.args.plan.now list is) c.list_of.ensures

use Rattle.std.proofs.Common.{subst}
use Rattle.std.specs.Prelude.{Option, IfSome}
use Rattle.std.proofs.lemmas.Result.{IfOk-weaker}
use Rattle.cell_core.specs.declared.list.CellList.{CellList}
use Rattle.routed_plans.specs.Wanted.{IsWanted}
use Rattle.routed_plans.proofs.routes.is_page_drawn.Goals as goal

pub returns-in-Some : goal.returns-in-Some
returns-in-Some c =
    let is = subst (λ (o : Option CellList). IfSome o (λ (wanted : CellList). IsWanted c.args.seen.now wanted c.args.list.now)) c.in-Some.is c.in_ok-wanted.ensures in
    IfOk-weaker c.is_list_drawn-is_drawn.result _ _ (λ is_drawn shows yes. (c.in-Some.wanted, is, shows yes)) c.is_list_drawn-is_drawn.ensures

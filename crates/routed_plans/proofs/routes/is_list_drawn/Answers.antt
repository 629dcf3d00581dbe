use Rattle.std.proofs.lemmas.Result.{IfOk-weaker}
use Rattle.ww_rule.specs.Grid.{plane_of}
use Rattle.routed_plans.proofs.Shown.{alike_shown}
use Rattle.routed_plans.proofs.routes.is_list_drawn.Goals as goal

pub returns-in-Ok : goal.returns-in-Ok
returns-in-Ok c =
    IfOk-weaker c.run_alike-are_alike.result _ _
    (λ alike is yes. alike_shown (plane_of c.args.pattern.now.rows) c.args.ports.now c.in-Ok.found c.args.list.now (is yes) c.in-Ok.ensures.shows)
    c.run_alike-are_alike.ensures

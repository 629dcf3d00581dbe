use Rattle.std.proofs.Common.{ap, ◌∙◌}
use Rattle.ww_rule.specs.Wireworld.{injected}
use Rattle.ww_rule.specs.Injections.{has_cell}
use Rattle.ww_rule.proofs.plane.step_driven.Goals as goal

pub returns-clause-cells : goal.returns-clause-cells
returns-clause-cells c =
    c.inject.ensures.cells ∙ ap (injected (has_cell c.args.injections.now)) c.in_ok-next.ensures.cells

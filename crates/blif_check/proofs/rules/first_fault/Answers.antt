use Rattle.std.proofs.Common.{sym, ◌∙◌}
use Rattle.blif_check.proofs.OneOrNone.{circle_or_none}
use Rattle.blif_check.proofs.rules.first_fault.Goals as goal

pub returns : goal.returns
returns c = circle_or_none c.args.models.now c.circle_fault.result (sym c.in_ok-fault.ensures ∙ c.in_default.is) (sym c.in_ok-fault-2.ensures ∙ c.in_default-2.is) c.circle_fault.ensures

use Rattle.plan_waves.proofs.ContextRows.{plans_show_context_rows}
use Rattle.plan_waves.proofs.contexts.plans_show_context_rows.Goals as goal

pub returns : goal.returns
returns c = plans_show_context_rows

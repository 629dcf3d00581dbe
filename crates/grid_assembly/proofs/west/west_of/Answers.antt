use Rattle.std.proofs.Common.{sym, ◌∙◌}
use Rattle.grid_assembly.proofs.WestRuns.{blank_row}
use Rattle.grid_assembly.proofs.west.west_of.Goals as goal

pub returns-else-has_wire : goal.returns-else-has_wire
returns-else-has_wire c = blank_row c.args.plan.now c.args.y (sym c.has_wire.ensures ∙ c.if-has_wire.false)

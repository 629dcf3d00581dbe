use Rattle.std.proofs.Common.{take, ap₂, ◌≢◌}
use Rattle.ww_rule.specs.declared.pattern.State.TheVariants.{Head}
use Rattle.tile_core.specs.Kinds.{lanes, exits}
use Rattle.tile_timing.specs.Window.{shown}
use Rattle.tile_timing.proofs.Ports.{each_port_cell}
use Rattle.tile_timing.proofs.law.exits_are_dark.Goals as goal

pub returns : goal.returns
returns c =
    each_port_cell (λ x y. shown c.args.cells.now 32 x y ≢ Head) (take (lanes c.args.kind) (exits c.args.kind)) _ c.are_dark.result (ap₂ take c.lanes-lanes.ensures c.exits-exits.ensures) c.are_dark.ensures

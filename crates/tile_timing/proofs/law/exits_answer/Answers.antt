use Rattle.std.proofs.Common.{take, get_or, false, ap₂}
use Rattle.tile_core.specs.Kinds.{lanes, exits, answer}
use Rattle.tile_timing.specs.Window.{shown}
use Rattle.tile_timing.proofs.Ports.{each_port_lit}
use Rattle.tile_timing.proofs.law.exits_answer.Goals as goal

pub returns : goal.returns
returns c =
    each_port_lit (shown c.args.cells.now 32) (take (lanes c.args.kind) (exits c.args.kind)) _ (answer c.args.kind (get_or c.args.lit 0 false) (get_or c.args.lit 1 false)) c.answer.result c.is_lit_as.result (ap₂ take c.lanes-lanes.ensures c.exits-exits.ensures) c.answer.ensures c.is_lit_as.ensures

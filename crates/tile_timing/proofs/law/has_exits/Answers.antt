use Rattle.std.proofs.Common.{take, ap₂, ◌≡◌, true}
use Rattle.tile_core.specs.Kinds.{lanes, exits}
use Rattle.tile_timing.specs.Law.{drawing_of}
use Rattle.tile_timing.proofs.Ports.{each_port_cell}
use Rattle.tile_timing.proofs.law.has_exits.Goals as goal

pub returns : goal.returns
returns c =
    each_port_cell (λ x y. drawing_of c.args.cells.now x y ≡ true) (take (lanes c.args.kind) (exits c.args.kind)) _ c.are_filled.result (ap₂ take c.lanes-lanes.ensures c.exits-exits.ensures) c.are_filled.ensures

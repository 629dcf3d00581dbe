use Rattle.std.proofs.Common.{take, ap₂, ◌≡◌, true}
use Rattle.tile_core.specs.Kinds.{lanes, entries}
use Rattle.tile_timing.specs.Law.{drawing_of}
use Rattle.tile_timing.proofs.Ports.{each_port_cell}
use Rattle.tile_timing.proofs.law.has_entries.Goals as goal

pub returns : goal.returns
returns c =
    each_port_cell (λ x y. drawing_of c.args.cells.now x y ≡ true) (take (lanes c.args.kind) (entries c.args.kind)) _ c.are_filled.result (ap₂ take c.lanes-lanes.ensures c.entries-entries.ensures) c.are_filled.ensures

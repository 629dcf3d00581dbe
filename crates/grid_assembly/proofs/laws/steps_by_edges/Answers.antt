use Rattle.macro_grid.proofs.Planes.{steps_of}
use Rattle.tile_library.specs.Drawings.{shipped_drawing}
use Rattle.grid_assembly.proofs.laws.steps_by_edges.Goals as goal

pub returns : goal.returns
returns c = λ plan h lit. steps_of plan h shipped_drawing c.keeps_law.ensures lit

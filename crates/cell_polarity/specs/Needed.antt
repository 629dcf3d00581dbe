-- The sources of a list that must have their own bits.
use Rattle.std.specs.Prelude.{List, [], ◌∷◌, ◌++◌, slice_get, flat_map}
use Rattle.std.specs.Option.{option_map_or}
use Rattle.cell_core.specs.declared.cells.Src.{Src}
use Rattle.cell_core.specs.declared.cells.Src.TheVariants.{Input, Latch, One, Zero, Cell as Made}
use Rattle.cell_core.specs.declared.cells.Cell.{Cell}
use Rattle.cell_core.specs.declared.cells.Cell.TheVariants.{Or, Xor, AndNot}
use Rattle.cell_core.specs.declared.list.CellList.{CellList}

abbrev pub cell_operands : Cell → List Src
cell_operands (Or a b) = a ∷ b ∷ []
cell_operands (Xor a b) = a ∷ b ∷ []
cell_operands (AndNot a b) = a ∷ b ∷ []

-- the source and what its cell reads, if it is one of these cells
abbrev pub with_operands : List Cell → Src → List Src
with_operands cells (Input i) = []
with_operands cells (Latch i) = []
with_operands cells One = []
with_operands cells Zero = []
with_operands cells (Made i) = option_map_or (λ cell. Made i ∷ cell_operands cell) (slice_get cells i) []

-- the outputs, latches' data and nets
abbrev pub ports_and_nets : CellList → List Src
ports_and_nets list = list.outs ++ (list.latches ++ list.nets)

-- the ports, and those of the kept sources that are cells, with what these cells read
abbrev pub needed : CellList → List Src → List Src
needed list kept = ports_and_nets list ++ flat_map (with_operands list.cells) kept

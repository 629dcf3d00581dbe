-- Where the bit of a source is made: at an entry, or by the instruction of a cell.
use Rattle.std.specs.Prelude.{ℕ, List, Option, Some, None, option_map, slice_get}
use Rattle.cell_core.specs.declared.cells.Src.{Src}
use Rattle.cell_core.specs.declared.cells.Src.TheVariants.{Input, Latch, One, Zero, Cell as Made}
use Rattle.cell_core.specs.declared.cells.Cell.{Cell}
use Rattle.cell_core.specs.declared.cells.Cell.TheVariants.{Or, Xor, AndNot}
use Rattle.lane_core.specs.declared.instr.Instr.{Instr}
use Rattle.lane_core.specs.declared.instr.Instr.TheVariants as instrs

-- the source, if no cell makes it
abbrev pub entry_source : Src → Option Src
entry_source (Input i) = Some (Input i)
entry_source (Latch i) = Some (Latch i)
entry_source One = Some One
entry_source Zero = Some Zero
entry_source (Made i) = None

-- the instruction that makes a cell, on this lane and the next
abbrev pub cell_instr : ℕ → Cell → Instr
cell_instr lane (Or a b) = instrs.Or lane
cell_instr lane (Xor a b) = instrs.Xor lane
cell_instr lane (AndNot a b) = instrs.AndNot lane

-- the instruction that makes the source, if a cell does
abbrev pub maker_on : List Cell → ℕ → Src → Option Instr
maker_on cells lane (Input i) = None
maker_on cells lane (Latch i) = None
maker_on cells lane One = None
maker_on cells lane Zero = None
maker_on cells lane (Made i) = option_map (cell_instr lane) (slice_get cells i)

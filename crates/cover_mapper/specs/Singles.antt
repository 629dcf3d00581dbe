-- The sources of the covers of a flat netlist that are one cell.
use Rattle.std.specs.Prelude.{◌==◌, ◌&&◌, Bool, cond, [], ◌∷◌, length, Option, Some, None, is_some}
use Rattle.netlist_core.specs.declared.flat.Node.{Node}
use Rattle.netlist_core.specs.declared.flat.Flat.{Flat}
use Rattle.netlist_meaning.specs.Flat.{class_of}
use Rattle.cell_core.specs.declared.cells.Src.{Src}
use Rattle.cell_core.specs.declared.cells.Src.TheVariants.{Zero}
use Rattle.cell_meaning.specs.Singles.{single_cell}
use Rattle.cover_mapper.specs.Sourced.{ClassSources, source_at}

-- the cover of a node is one cell, whichever two sources it reads
abbrev pub is_single : Node → Bool
is_single node =
    (length node.ins == 2) && is_some (single_cell (Zero ∷ Zero ∷ []) node.rows node.on)

-- the source of a node's class, if its cover is one cell
abbrev pub single_source : Flat → ClassSources → Node → Option Src
single_source flat sources node =
    cond (is_single node) (Some (source_at sources (class_of flat node.out))) None

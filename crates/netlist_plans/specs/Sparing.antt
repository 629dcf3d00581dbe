-- Flat netlists whose plans have no loop.
use Rattle.std.specs.Prelude.{ℕ, ◌+◌, ◌*◌, ◌≤◌, ◌≡◌, Bool, false, List, [], length, replicate, Option, Some, None}
use Rattle.std.specs.List.{list_any}
use Rattle.netlist_core.specs.declared.flat.Flat.{Flat}
use Rattle.netlist_meaning.specs.FlatValuation.{IsFlatValuation, flat_output_bits}
use Rattle.cell_core.specs.declared.cells.Src.{Src}
use Rattle.cell_core.specs.declared.list.CellList.{CellList}
use Rattle.cell_core.specs.Loops.{names_one}
use Rattle.cell_meaning.specs.Needs.{covers_weight}
use Rattle.cover_mapper.specs.Sourced.{most_cells_of}
use Rattle.cell_polarity.specs.Zero.{zero_bit}
use Rattle.cell_polarity.specs.Needed.{needed}
use Rattle.cell_polarity.specs.declared.building.KeptList.{KeptList}

-- There are no latches, and no nets are listed. The covers have at most half as many cells as a
-- list may have, so that there is room for complements. While all inputs are 0, so are all outputs.
pub record SparesOne (flat : Flat) : Type 0 where
  pub latches : length flat.latches ≡ 0
  pub unlisted : flat.listed ≡ false
  pub few : most_cells_of flat ≤ covers_weight flat
  pub bits : ℕ → Bool
  pub solves : IsFlatValuation flat (replicate (length flat.ins) false) [] bits
  pub zero : list_any (λ bit. bit) (flat_output_bits flat bits) ≡ false

-- there is room for complements, and no needed source is 1 at zero
pub record HasRoomForComplements (flat : Flat) (list : CellList) (kept : List Src) : Type 0 where
  pub few : 2 * length list.cells + length kept ≤ 2 * covers_weight flat
  pub none : list_any (zero_bit list) (needed list kept) ≡ false

abbrev pub NamesNoOne : CellList → Type 0
NamesNoOne list = names_one list ≡ false

-- the list of complements does not name constant 1, or the list itself if there is none
abbrev pub ComplementsNameNoOne : CellList → Option KeptList → Type 0
ComplementsNameNoOne list None = NamesNoOne list
ComplementsNameNoOne list (Some low) = NamesNoOne low.list

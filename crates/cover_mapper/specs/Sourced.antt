-- The sources of classes of nets, while covers are mapped in an order.
use Rattle.std.specs.Prelude.{ℕ, ◌<◌, ◌≡◌, ◌==◌, Bool, true, List, [], length, map, get_or, sum_by, Option, Some, None, Contains}
use Rattle.std.specs.List.{filter_map}
use Rattle.std.specs.Option.{unwrap_or}
use Rattle.netlist_core.specs.declared.flat.Node.{Node}
use Rattle.netlist_core.specs.declared.flat.Flat.{Flat}
use Rattle.netlist_meaning.specs.Flat.{FlatDriver, FlatDrives, node_at, in_classes, out_class}
use Rattle.netlist_meaning.specs.FlatOrder.{IsOrder}
use Rattle.netlist_meaning.specs.FlatValuation.{IsFlatValuation}
use Rattle.cell_core.specs.declared.cells.Src.{Src}
use Rattle.cell_core.specs.declared.cells.Src.TheVariants.{Zero}
use Rattle.cell_core.specs.declared.cells.Cell.{Cell}
use Rattle.cell_core.specs.declared.list.CellList.{CellList}
use Rattle.cell_core.specs.Sources.{is_one}
use Rattle.cell_core.specs.Meaning.{bit_in}
use Rattle.cover_cells.specs.Covers.{most_cells_of_cover}
use Rattle.cell_sharing.specs.Grown.{HasSource, Grows}
use Rattle.cell_meaning.specs.Mapped.{IsCell, IsOwn, constant_of}
use Rattle.cell_meaning.specs.Singles.{single_cell}
use Rattle.cell_meaning.specs.Needs.{any_needs_one}

-- how many cells the cover of a node takes at most, and below it those of all nodes
abbrev pub node_cells : Node → ℕ
node_cells node = most_cells_of_cover node.rows node.on

abbrev pub most_cells_of : Flat → ℕ
most_cells_of flat = sum_by node_cells flat.nodes

-- a source for each class that has one
abbrev pub ClassSources : Type 0
ClassSources = List (Option Src)

-- the sources of those classes that have one, in order
abbrev pub sources_at : ClassSources → List ℕ → List Src
sources_at sources classes = filter_map (λ class. get_or sources class None) classes

-- the source of a class that has one
abbrev pub source_at : ClassSources → ℕ → Src
source_at sources class = unwrap_or (get_or sources class None) Zero

-- the driver is among the first inputs, the first latches, or these nodes
abbrev pub IsAmongFirst : ℕ → ℕ → List ℕ → FlatDriver → Type 0
IsAmongFirst inputs latches nodes (FlatDriver.input i) = i < inputs
IsAmongFirst inputs latches nodes (FlatDriver.latch i) = i < latches
IsAmongFirst inputs latches nodes (FlatDriver.node n) = Contains nodes n

-- the classes with such a driver, and no others, have a source, which is there and has their bit
pub record AreSourced (flat : Flat) (made : FlatDriver → Type 0) (list : CellList)
    (sources : ClassSources) : Type 0 where
  pub long : length sources ≡ length flat.nets
  pub all : (class : ℕ) (d : FlatDriver) → FlatDrives flat d class → made d
      → (src : Src) × (get_or sources class None ≡ Some src)
  pub only : (class : ℕ) (src : Src) → get_or sources class None ≡ Some src
      → (d : FlatDriver) × FlatDrives flat d class × made d
  pub own : (class : ℕ) (d : FlatDriver) (src : Src) → FlatDrives flat d class → made d
      → get_or sources class None ≡ Some src → IsOwn d src
  pub there : (class : ℕ) (src : Src) → get_or sources class None ≡ Some src → HasSource list src
  pub one : (class : ℕ) (src : Src) → get_or sources class None ≡ Some src → is_one src ≡ true
      → any_needs_one flat ≡ true
  pub bits : (inputs state : List Bool) (bits : ℕ → Bool) → IsFlatValuation flat inputs state bits
      → (class : ℕ) (src : Src) → get_or sources class None ≡ Some src
      → bit_in list.cells inputs state src ≡ bits class

-- if the cover of a node is a single cell, this cell is the source of its class
abbrev pub HasSingle : Flat → CellList → ClassSources → ℕ → Type 0
HasSingle flat list sources n =
    (cell : Cell) → single_cell (map (source_at sources) (in_classes flat n)) (node_at flat n).rows
    (node_at flat n).on ≡ Some cell → IsCell list (source_at sources (out_class flat n)) cell

-- if the cover of a node is a constant by its text, this is the source of its class
abbrev pub HasConstant : Flat → ClassSources → ℕ → Type 0
HasConstant flat sources n =
    (src : Src) → constant_of flat n ≡ Some src → source_at sources (out_class flat n) ≡ src

-- these nodes are mapped: their covers' cells are in the list, and their classes have sources
pub record AreMapped (flat : Flat) (old new : CellList) (sources : ClassSources)
    (nodes : List ℕ) : Type 0 where
  pub sourced : AreSourced flat (IsAmongFirst (length flat.ins)
      (length flat.latches) nodes) new sources
  pub grows : Grows old new (sum_by (λ n. node_cells (node_at flat n)) nodes)
      (any_needs_one flat ≡ true)
  pub single : (j : ℕ) → j < length nodes → HasSingle flat new sources (get_or nodes j 0)
  pub constant : (j : ℕ) → j < length nodes → HasConstant flat sources (get_or nodes j 0)

-- all nodes are mapped, from a list of no cells on
pub record IsComplete (flat : Flat) (list : CellList) (sources : ClassSources) : Type 0 where
  pub start : CellList
  pub inputs : start.inputs ≡ length flat.ins
  pub starts : start.starts ≡ map (λ latch. latch.init == 1) flat.latches
  pub cells : start.cells ≡ []
  pub order : List ℕ
  pub ordered : IsOrder flat order
  pub mapped : AreMapped flat start list sources order

-- A list of cells that computes a flat netlist.
use Rattle.std.specs.Prelude.{ℕ, ◌*◌, ◌≤◌, ◌<◌, ◌≡◌, ◌==◌, Bool, true, List, length, map, slice_get, Option, Some, Contains, ⊤}
use Rattle.netlist_core.specs.declared.flat.Flat.{Flat}
use Rattle.netlist_meaning.specs.Flat.{class_of, node_at, in_classes, out_class, port_classes, FlatDriver, FlatDrives}
use Rattle.cell_meaning.specs.Listed.{listed_classes}
use Rattle.netlist_meaning.specs.FlatValuation.{IsFlatValuation}
use Rattle.cell_core.specs.declared.cells.Src.{Src}
use Rattle.cell_core.specs.declared.cells.Src.TheVariants.{Input, Latch, Cell as Made}
use Rattle.cell_core.specs.declared.cells.Cell.{Cell}
use Rattle.cell_core.specs.declared.list.CellList.{CellList}
use Rattle.cell_core.specs.Meaning.{bit_of}
use Rattle.cell_core.specs.Loops.{names_one}
use Rattle.cell_meaning.specs.Singles.{constant_source, single_cell}
use Rattle.cell_meaning.specs.Needs.{any_needs_one, covers_weight}

-- the source is this cell of the list
abbrev pub IsCell : CellList → Src → Cell → Type 0
IsCell list src cell = (k : ℕ) × (src ≡ Made k) × (slice_get list.cells k ≡ Some cell)

-- an input's class has the input as its source, and a latch's class the latch
abbrev pub IsOwn : FlatDriver → Src → Type 0
IsOwn (FlatDriver.input i) src = src ≡ Input i
IsOwn (FlatDriver.latch i) src = src ≡ Latch i
IsOwn (FlatDriver.node n) src = ⊤

-- the constant that the cover of a node is by its text, if it is one
abbrev pub constant_of : Flat → ℕ → Option Src
constant_of flat n =
    constant_source (length (node_at flat n).ins) (node_at flat n).rows (node_at flat n).on

-- the sources of outputs, of latches' data and of the listed nets have the bits that these have in
-- the valuation
pub record HasBits (flat : Flat) (list : CellList) (inputs state : List Bool)
    (bits : ℕ → Bool) : Type 0 where
  pub outs : map (bit_of list inputs state) list.outs ≡ map bits (port_classes flat flat.outs)
  pub latches : map (bit_of list inputs state) list.latches
      ≡ map (λ latch. bits (class_of flat latch.input)) flat.latches
  pub nets : map (bit_of list inputs state) list.nets ≡ map bits (listed_classes flat)

-- Each class of nets that is driven has one source; that of an input or a latch is its own. If the
-- nets are listed, the source has the class's bit in each valuation, and the source of a cover that
-- is one cell is this cell.
pub record IsMapped (flat : Flat) (list : CellList) : Type 0 where
  pub sources : ℕ → Src
  pub inputs : list.inputs ≡ length flat.ins
  pub starts : list.starts ≡ map (λ latch. latch.init == 1) flat.latches
  pub outs : list.outs ≡ map sources (port_classes flat flat.outs)
  pub latches : list.latches ≡ map (λ latch. sources (class_of flat latch.input)) flat.latches
  pub nets : list.nets ≡ map sources (listed_classes flat)
  pub own : (class : ℕ) (d : FlatDriver) → FlatDrives flat d class → IsOwn d (sources class)
  pub bits : flat.listed ≡ true → (inputs state : List Bool) (bits : ℕ → Bool)
      → IsFlatValuation flat inputs state bits
      → (class : ℕ) (d : FlatDriver) → FlatDrives flat d class
      → bit_of list inputs state (sources class) ≡ bits class
  pub single : flat.listed ≡ true → (n : ℕ) (cell : Cell) → n < length flat.nodes
      → single_cell (map sources (in_classes flat n)) (node_at flat n).rows (node_at flat n).on
      ≡ Some cell → IsCell list (sources (out_class flat n)) cell
  pub constant : (n : ℕ) (src : Src) → n < length flat.nodes → constant_of flat n ≡ Some src
      → sources (out_class flat n) ≡ src
  pub few : length list.cells ≤ 2 * covers_weight flat
  pub one : names_one list ≡ true → any_needs_one flat ≡ true

-- if the nets are listed, the source of each cover that is one cell is among these
abbrev pub AreSinglesAmong : Flat → (ℕ → Src) → List Src → Type 0
AreSinglesAmong flat sources singles =
    flat.listed ≡ true → (n : ℕ) (cell : Cell) → n < length flat.nodes
    → single_cell (map sources (in_classes flat n)) (node_at flat n).rows (node_at flat n).on
    ≡ Some cell
    → Contains singles (sources (out_class flat n))

-- the list is mapped from the netlist and, if the nets are listed, the source of each cover that is
-- one cell is among these
pub record IsMappedWith (flat : Flat) (list : CellList) (singles : List Src) : Type 0 where
  pub mapped : IsMapped flat list
  pub among : AreSinglesAmong flat mapped.sources singles

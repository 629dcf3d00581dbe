-- Where the listed nets of a flat netlist are found in its plan.
use Rattle.std.specs.Prelude.{ℕ, ◌+◌, ◌-◌, ◌<◌, ◌≡◌, ◌⊎◌, [], ◌∷◌, Some, None, length, get_or}
use Rattle.cell_core.specs.declared.cells.Src.{Src}
use Rattle.cell_core.specs.declared.cells.Src.TheVariants.{One, Zero}
use Rattle.cell_core.specs.declared.cells.Cell.{Cell}
use Rattle.cell_meaning.specs.Origins.{cell_instr}
use Rattle.cell_plans.specs.Exits.{IsExitOf}
use Rattle.cell_meaning.specs.Singles.{single_cell}
use Rattle.cell_meaning.specs.Mapped.{constant_of}
use Rattle.lane_core.specs.declared.plan.NetPlace.{NetPlace}
use Rattle.lane_core.specs.declared.plan.Plan.{Plan}
use Rattle.netlist_core.specs.declared.flat.Net.{Net as FlatNet}
use Rattle.netlist_core.specs.declared.flat.Flat.{Flat}
use Rattle.netlist_meaning.specs.Flat.{listed_nets, node_at, FlatDriver, FlatDrives}

-- the place is the entry of the lane
abbrev pub IsEntry : ℕ → NetPlace → Type 0
IsEntry lane place = (place.lane ≡ lane) × (place.after ≡ None)

-- the place is the exit of a column, on the upper lane of an instruction of the column that makes a
-- cell
abbrev pub IsCellExit : Plan → NetPlace → Type 0
IsCellExit plan place =
    (cell : Cell) × IsExitOf plan.columns (cell_instr place.lane cell) place.after

-- this input, latch or cover drives listed net k
abbrev pub DrivesNet : Flat → FlatDriver → ℕ → FlatNet → Type 0
DrivesNet flat driver k net =
    (k < length (listed_nets flat)) × FlatDrives flat driver (get_or (listed_nets flat) k net).class

-- Each listed net, in order, has a place. If an input or a latch drives it, the place is the entry
-- of the input's lane or of the lane of the latch's loop. If a cover drives it, the place is an
-- entry, or the exit of a column that makes a cell there. If the cover is a constant by its text,
-- the place is an entry; for constant 1 it is the entry of the lane of that constant's loop, the
-- one after the loops of the latches. If the cover has two inputs and is an OR, an XOR or an
-- AND-NOT, the place is the exit of a column with that instruction.
pub record HasNetPlaces (flat : Flat) (plan : Plan) : Type 0 where
  pub many : length plan.nets ≡ length (listed_nets flat)
  pub inputs : (k i : ℕ) (net : FlatNet) (place : NetPlace)
      → DrivesNet flat (FlatDriver.input i) k net
      → IsEntry (get_or plan.ins i 0) (get_or plan.nets k place)
  pub latches : (k i : ℕ) (net : FlatNet) (place : NetPlace)
      → DrivesNet flat (FlatDriver.latch i) k net
      → IsEntry (plan.lanes - plan.latches + i) (get_or plan.nets k place)
  pub covers : (k n : ℕ) (net : FlatNet) (place : NetPlace)
      → DrivesNet flat (FlatDriver.node n) k net
      → ((get_or plan.nets k place).after ≡ None) ⊎ IsCellExit plan (get_or plan.nets k place)
  pub constants : (k n : ℕ) (net : FlatNet) (place : NetPlace)
      → DrivesNet flat (FlatDriver.node n) k net
      → (constant_of flat n ≡ Some Zero → (get_or plan.nets k place).after ≡ None)
      × (constant_of flat n ≡ Some One → IsEntry (plan.lanes - plan.latches + length flat.latches)
      (get_or plan.nets k place))
  pub singles : (k n : ℕ) (net : FlatNet) (place : NetPlace) (a b : Src) (cell : Cell)
      → DrivesNet flat (FlatDriver.node n) k net → length (node_at flat n).ins ≡ 2
      → single_cell (a ∷ b ∷ []) (node_at flat n).rows (node_at flat n).on ≡ Some cell
      → IsExitOf plan.columns (cell_instr (get_or plan.nets k place).lane cell)
      (get_or plan.nets k place).after

-- The rules on clocks, 20 and 21, in a flat netlist.
use Rattle.std.specs.Prelude.{ℕ, ◌≡◌, ◌<◌, ◌≤◌, ◌⊎◌, [], ◌∷◌, ◌++◌, Option, Some, None, slice_get, Contains, codes}
use Rattle.netlist_core.specs.Names.{Name}
use Rattle.netlist_core.specs.declared.flat.NetId.{NetId}
use Rattle.netlist_core.specs.declared.flat.FlatPort.{FlatPort}
use Rattle.netlist_core.specs.declared.flat.FlatLatch.{FlatLatch}
use Rattle.netlist_core.specs.declared.flat.Node.{Node}
use Rattle.netlist_core.specs.declared.flat.Flat.{Flat}
use Rattle.netlist_meaning.specs.Flat.{class_of, IsClockClass, name_of_net}
use Rattle.netlist_rules.specs.declared.fault.Fault.{Fault}
use Rattle.netlist_rules.specs.declared.fault.FaultKind.TheVariants.{TwoClocks, ClockRead}
use Rattle.netlist_rules.specs.FaultNames.{fault_on}

-- two flat latches have the same type and control
abbrev pub HasSameFlatControl : Flat → Option NetId → Option NetId → Type 0
HasSameFlatControl flat None None = Unit {0}
HasSameFlatControl flat None (Some b) = ⊥
HasSameFlatControl flat (Some a) None = ⊥
HasSameFlatControl flat (Some a) (Some b) = class_of flat a ≡ class_of flat b

abbrev pub HasSameFlatClock : Flat → FlatLatch → FlatLatch → Type 0
HasSameFlatClock flat a b = (a.kind ≡ b.kind) × HasSameFlatControl flat a.control b.control

abbrev pub flat_control_word : Flat → Option NetId → Name
flat_control_word flat None = codes "-"
flat_control_word flat (Some id) = name_of_net flat id

-- the first of the flat latches that differs from the first one in type or control
pub record IsFlatTwoClocks (flat : Flat) (line : ℕ) (word : Name) : Type 0 where
  pub first : FlatLatch
  pub found : FlatLatch
  pub number : ℕ
  pub is_first : slice_get flat.latches 0 ≡ Some first
  pub is_found : slice_get flat.latches number ≡ Some found
  pub differs : ¬ HasSameFlatClock flat first found
  pub agree_before : (k : ℕ) (latch : FlatLatch) → k < number
      → slice_get flat.latches k ≡ Some latch → HasSameFlatClock flat first latch
  pub is_line : line ≡ found.line
  pub is_word : word ≡ flat_control_word flat found.control

-- a word on a line that reads or drives a net as a node, as a latch's input or output, or as an
-- output does
pub data IsFlatUse (flat : Flat) : ℕ → ℕ → NetId → Type 0 where
  by_node : {node : Node} {position : ℕ} {id : NetId} → Contains flat.nodes node
      → slice_get (node.ins ++ node.out ∷ []) position ≡ Some id
      → IsFlatUse flat node.line position id
  by_data : {latch : FlatLatch} {position : ℕ} {id : NetId} → Contains flat.latches latch
      → slice_get (latch.input ∷ latch.output ∷ []) position ≡ Some id
      → IsFlatUse flat latch.line position id
  by_output : {port : FlatPort} {position : ℕ} → slice_get flat.outs position ≡ Some port
      → IsFlatUse flat port.line position port.net

abbrev pub IsFlatClockUse : Flat → ℕ → ℕ → NetId → Type 0
IsFlatClockUse flat line position id =
    IsFlatUse flat line position id × IsClockClass flat (class_of flat id)

-- the earliest use of a clock class
pub record IsFlatClockRead (flat : Flat) (line : ℕ) (word : Name) : Type 0 where
  pub position : ℕ
  pub id : NetId
  pub is_use : IsFlatClockUse flat line position id
  pub is_earliest : (other_line other_position : ℕ) (other : NetId)
      → IsFlatClockUse flat other_line other_position other
      → (line < other_line) ⊎ ((line ≡ other_line) × (position ≤ other_position))
  pub is_word : word ≡ name_of_net flat id

-- no flat latch differs in type or control from the first
abbrev pub HasOneFlatClock : Flat → Type 0
HasOneFlatClock flat = (line : ℕ) (word : Name) → ¬ IsFlatTwoClocks flat line word

-- the clock fault of a flat netlist, with its line and word: B20, or B21 if there is no B20
pub data IsFlatClockFault (flat : Flat) : Fault → Type 0 where
  two_clocks : {line : ℕ} {word : Name} → IsFlatTwoClocks flat line word
      → IsFlatClockFault flat (fault_on TwoClocks line word)
  clock_read : {line : ℕ} {word : Name} → HasOneFlatClock flat → IsFlatClockRead flat line word
      → IsFlatClockFault flat (fault_on ClockRead line word)

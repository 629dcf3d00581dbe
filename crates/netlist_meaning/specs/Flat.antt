-- Flat netlists: what drives and what reads a class of joined nets. Nothing here asks for a design.
use Rattle.std.specs.Prelude.{ℕ, ◌≡◌, ◌≢◌, ◌<◌, ◌≤◌, ◌+◌, ◌*◌, ◌^◌, ◌⊎◌, ◌==◌, ◌&&◌, ◌||◌, not, cond, Bool, List, [], length, map, filter, sum_by, get_or, slice_get, false, Some, Contains, All, AllPairs, MatchOption, ⊤}
use Rattle.std.specs.List.{list_any}
use Rattle.std.specs.Option.{option_map_or}
use Rattle.netlist_core.specs.declared.flat.NetId.{NetId}
use Rattle.netlist_core.specs.declared.flat.Net.{Net as FlatNet}
use Rattle.netlist_core.specs.declared.flat.FlatPort.{FlatPort}
use Rattle.netlist_core.specs.declared.flat.FlatLatch.{FlatLatch}
use Rattle.netlist_core.specs.declared.flat.Node.{Node}
use Rattle.netlist_core.specs.declared.flat.Flat.{Flat}
use Rattle.netlist_core.specs.Names.{Name}
use Rattle.netlist_core.specs.OwnWeight.{rows_weight}

-- the net and the node that stand for a number past the last
abbrev pub no_net : FlatNet
no_net = record { place = []; name = []; class = 0 }

abbrev pub no_node : Node
no_node = record { line = 0; ins = []; out = record { 0 = 0 }; rows = []; on = false }

-- the number is that of a net
abbrev pub IsNetId : Flat → NetId → Type 0
IsNetId flat id = id.0 < length flat.nets

-- the class of a net
abbrev pub class_of : Flat → NetId → ℕ
class_of flat id = (get_or flat.nets id.0 no_net).class

-- the name of a net at its place
abbrev pub name_of_net : Flat → NetId → Name
name_of_net flat id = (get_or flat.nets id.0 no_net).name

abbrev pub node_at : Flat → ℕ → Node
node_at flat n = get_or flat.nodes n no_node

-- the classes that a node reads, in order, and the class that it drives
abbrev pub in_classes : Flat → ℕ → List ℕ
in_classes flat n = map (class_of flat) (node_at flat n).ins

abbrev pub out_class : Flat → ℕ → ℕ
out_class flat n = class_of flat (node_at flat n).out

-- the classes of ports, in order
abbrev pub port_classes : Flat → List FlatPort → List ℕ
port_classes flat ports = map (λ port. class_of flat port.net) ports

-- what gives a class its bit: an input, a latch or a node, by its position
pub data FlatDriver : Type 0 where
  input : ℕ → FlatDriver
  latch : ℕ → FlatDriver
  node : ℕ → FlatDriver

abbrev pub FlatDrives : Flat → FlatDriver → ℕ → Type 0
FlatDrives flat (input i) class =
    (port : FlatPort) × (slice_get flat.ins i ≡ Some port) × (class_of flat port.net ≡ class)
FlatDrives flat (latch i) class =
    (l : FlatLatch) × (slice_get flat.latches i ≡ Some l) × (class_of flat l.output ≡ class)
FlatDrives flat (node n) class = (n < length flat.nodes) × (out_class flat n ≡ class)

-- a clock's class: that of the control, or that of one of the clocks if no input has it
abbrev pub IsClockClass : Flat → ℕ → Type 0
IsClockClass flat class =
    MatchOption flat.control ⊥ (λ id. class_of flat id ≡ class)
    ⊎ (Contains (port_classes flat flat.clocks) class
    × ¬ Contains (port_classes flat flat.ins) class)

-- `IsClockClass` as a test (`is_clock_class-Decides`), and all nets but the clock nets, in order
abbrev pub is_clock_class : Flat → ℕ → Bool
is_clock_class flat class =
    option_map_or (λ id. class_of flat id == class) flat.control false
    || (list_any (λ clock. clock == class) (port_classes flat flat.clocks)
    && not (list_any (λ input. input == class) (port_classes flat flat.ins)))

abbrev pub nets_but_clocks : Flat → List FlatNet
nets_but_clocks flat = filter (λ net. not (is_clock_class flat net.class)) flat.nets

-- the nets that a port table lists: all but the clock nets, or none
abbrev pub listed_nets : Flat → List FlatNet
listed_nets flat = cond flat.listed (nets_but_clocks flat) []

-- every number is in range. The numbers of nodes are u32, as in an order, and those of classes are
-- below the number of nets, so that a table of classes is no longer than the nets
pub record IsInRange (flat : Flat) : Type 0 where
  pub few : length flat.nodes < 2 ^ 32
  pub classes : All (λ net. net.class < length flat.nets) flat.nets
  pub ins : All (λ port. IsNetId flat port.net) flat.ins
  pub outs : All (λ port. IsNetId flat port.net) flat.outs
  pub clocks : All (λ port. IsNetId flat port.net) flat.clocks
  pub latches : All (λ latch. IsNetId flat latch.input × IsNetId flat latch.output) flat.latches
  pub controls : All (λ latch. MatchOption latch.control ⊤ (IsNetId flat)) flat.latches
  pub control : MatchOption flat.control ⊤ (IsNetId flat)
  pub node_ins : All (λ node. All (IsNetId flat) node.ins) flat.nodes
  pub node_outs : All (λ node. IsNetId flat node.out) flat.nodes

-- A sound netlist: each class but the clocks' has exactly one driver, and clock classes are neither
-- read nor driven. Latches may still differ in type or clock.
pub record IsSound (flat : Flat) : Type 0 where
  pub in_range : IsInRange flat
  pub one_driver : (class : ℕ) (d e : FlatDriver) → FlatDrives flat d class
      → FlatDrives flat e class → d ≡ e
  pub driven : (id : NetId) → IsNetId flat id → ¬ IsClockClass flat (class_of flat id)
      → (d : FlatDriver) × FlatDrives flat d (class_of flat id)
  pub clocks_undriven : (class : ℕ) (d : FlatDriver) → FlatDrives flat d class
      → ¬ IsClockClass flat class
  pub clocks_unread : (n class : ℕ) → Contains (in_classes flat n) class → ¬ IsClockClass flat class
  pub clocks_no_outs : All (λ port. ¬ IsClockClass flat (class_of flat port.net)) flat.outs
  pub clocks_no_data : All (λ latch. ¬ IsClockClass flat (class_of flat latch.input)) flat.latches

-- The weight bounds the parts: nets, ports, latches and covers. Twice the weight is a u32.
pub record IsWeighed (flat : Flat) : Type 0 where
  pub nets : length flat.nets ≤ flat.weight
  pub parts : length flat.ins + length flat.outs + 2 * length flat.latches + sum_by
      (λ node. rows_weight node.rows) flat.nodes ≤ flat.weight
  pub few : flat.weight < 2 ^ 31

-- the names of ports, in order
abbrev pub names_of_ports : Flat → List FlatPort → List Name
names_of_ports flat ports = map (λ port. name_of_net flat port.net) ports

-- ports of the main model, with distinct names
pub record AreNamedPorts (flat : Flat) (ports : List FlatPort) : Type 0 where
  pub main : All (λ port. (get_or flat.nets port.net.0 no_net).place ≡ []) ports
  pub distinct : AllPairs (λ a b. a ≢ b) (names_of_ports flat ports)

-- The names of inputs are distinct, and so are those of outputs: so a table of them can be read
-- back.
pub record IsNamed (flat : Flat) : Type 0 where
  pub ins : AreNamedPorts flat flat.ins
  pub outs : AreNamedPorts flat flat.outs

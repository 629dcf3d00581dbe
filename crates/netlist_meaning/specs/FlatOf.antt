-- The flat netlist of a design: its nets in order, and between them its covers and latches, place
-- by place. It is defined by structure alone, so a design has one flat netlist whether or not its
-- bits are determined.
use Rattle.std.specs.Prelude.{ℕ, suc, ◌≡◌, List, [], ◌∷◌, Bool, true, false, ◌&&◌, map, flat_map, Option, slice_get, option_map, option_and_then, bytes_eq}
use Rattle.netlist_core.specs.declared.model.Design.{Design}
use Rattle.netlist_core.specs.declared.model.Model.{Model}
use Rattle.netlist_core.specs.declared.model.Port.{Port}
use Rattle.netlist_core.specs.declared.model.Cover.{Cover}
use Rattle.netlist_core.specs.declared.model.LatchRow.{LatchRow}
use Rattle.netlist_core.specs.declared.flat.NetId.{NetId}
use Rattle.netlist_core.specs.declared.flat.Net.{Net as FlatNet}
use Rattle.netlist_core.specs.declared.flat.FlatPort.{FlatPort}
use Rattle.netlist_core.specs.declared.flat.FlatLatch.{FlatLatch}
use Rattle.netlist_core.specs.declared.flat.Node.{Node}
use Rattle.netlist_core.specs.declared.flat.Flat.{Flat}
use Rattle.netlist_core.specs.Names.{Name}
use Rattle.netlist_meaning.specs.Places.{Place, model_at, main_ports}
use Rattle.netlist_meaning.specs.Nets.{Net, net_at, IsControl}
use Rattle.netlist_meaning.specs.Roots.{root}
use Rattle.netlist_meaning.specs.Weight.{weight}
use Rattle.netlist_meaning.specs.InOrder.{of_some, places_in_order, nets_in_order}

-- the position of a net among nets, or the length of the list if it is none of them
abbrev pub is_same_net : Net → Net → Bool
is_same_net a b = bytes_eq a.place b.place && bytes_eq a.name b.name

abbrev pub zero_or_next : Bool → ℕ → ℕ
zero_or_next true n = 0
zero_or_next false n = suc n

abbrev pub position_of : List Net → Net → ℕ
position_of [] net = 0
position_of (first ∷ nets) net = zero_or_next (is_same_net first net) (position_of nets net)

-- the number of the net of that name at a place
abbrev pub id_of : Design → Place → Name → NetId
id_of design place name = record { 0 = position_of (nets_in_order design) (net_at place name) }

-- the class of a net is the position of its root: of all nets joined with it, the one nearest the
-- main model
abbrev pub class_of_net : Design → Net → ℕ
class_of_net design net = position_of (nets_in_order design) (root design net)

-- the flat forms of a net, a cover, a latch and a port of the design, with their own names, places
-- and lines
abbrev pub flat_net : Design → Net → FlatNet
flat_net design net = record { place = net.place; name = net.name; class = class_of_net design net }

abbrev pub flat_node : Design → Place → Cover → Node
flat_node design place cover = record {
  line = cover.line;
  ins = map (id_of design place) cover.ins;
  out = id_of design place cover.out;
  rows = cover.rows;
  on = cover.on;
}

abbrev pub flat_latch : Design → Place → LatchRow → FlatLatch
flat_latch design place latch = record {
  line = latch.line;
  input = id_of design place latch.input;
  output = id_of design place latch.output;
  kind = latch.kind;
  control = option_map (id_of design place) latch.control;
  init = latch.init;
}

abbrev pub flat_port : Design → Port → FlatPort
flat_port design port = record { line = port.line; net = id_of design [] port.name }

-- the items of some kind that the model at each place has, in order; the covers and latches of a
-- model are in the order of their lines
abbrev pub at_places : {X Y : Type 0} → Design → (Model → List X) → (Place → X → Y) → List Y
at_places design items f =
    flat_map (λ place. map (f place) (of_some items (model_at design place)))
    (places_in_order design)

-- the ports of a list whose nets in the main model are not the control, in order
pub data PortsWithoutControl (design : Design) : List Port → List Port → Type 0 where
  none : PortsWithoutControl design [] []
  kept : {port : Port} {ports rest : List Port} → ¬ IsControl design (net_at [] port.name)
      → PortsWithoutControl design ports rest
      → PortsWithoutControl design (port ∷ ports) (port ∷ rest)
  left_out : {port : Port} {ports rest : List Port} → IsControl design (net_at [] port.name)
      → PortsWithoutControl design ports rest → PortsWithoutControl design (port ∷ ports) rest

-- the control of the first latch
abbrev pub first_control : List FlatLatch → Option NetId
first_control latches = option_and_then (λ latch. latch.control) (slice_get latches 0)

-- The inputs leave out what is joined with the control of any latch, while `control` is that of the
-- first latch. These agree if all latches have one clock, and no command uses them if latches have
-- two clocks.
pub record IsFlatOf (design : Design) (flat : Flat) : Type 0 where
  pub in_ports : List Port
  pub are_in_ports : PortsWithoutControl design (main_ports (λ model. model.ins) design) in_ports
  pub nets : flat.nets ≡ map (flat_net design) (nets_in_order design)
  pub nodes : flat.nodes ≡ at_places design (λ model. model.covers) (flat_node design)
  pub latches : flat.latches ≡ at_places design (λ model. model.latches) (flat_latch design)
  pub ins : flat.ins ≡ map (flat_port design) in_ports
  pub outs : flat.outs ≡ map (flat_port design) (main_ports (λ model. model.outs) design)
  pub clocks : flat.clocks ≡ map (flat_port design) (main_ports (λ model. model.clocks) design)
  pub control : flat.control ≡ first_control flat.latches
  pub weight : flat.weight ≡ weight design
  pub listed : flat.listed ≡ true

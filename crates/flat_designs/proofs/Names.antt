-- What the lines of a model name are nets.
use Rattle.std.proofs.Common.{◌≡◌, List, [], ◌∷◌, ◌++◌, Option, Some, None, map, flat_map, option_and_then, option_map, option_to_list, unwrap_or, refl, ap}
use Rattle.netlist_core.specs.declared.model.Design.{Design}
use Rattle.netlist_core.specs.declared.model.Model.{Model}
use Rattle.netlist_core.specs.declared.model.Port.{Port}
use Rattle.netlist_core.specs.declared.model.Cover.{Cover}
use Rattle.netlist_core.specs.declared.model.LatchRow.{LatchRow}
use Rattle.netlist_core.specs.declared.model.Pin.{Pin}
use Rattle.netlist_core.specs.declared.model.Subckt.{Subckt}
use Rattle.netlist_core.specs.Names.{Name, port_names}
use Rattle.netlist_meaning.specs.Places.{Place, main_model, model_below, model_at, main_ports}
use Rattle.netlist_meaning.specs.Nets.{net_at, model_names, IsNet}
use Rattle.lists.proofs.Members.{In, in_left, in_right, in_map, in_flat, contains_from}

of_covers : List Cover → List Name
of_covers covers = flat_map (λ (c : Cover). c.ins ++ c.out ∷ []) covers

of_latches : List LatchRow → List Name
of_latches latches = flat_map (λ (l : LatchRow). l.input ∷ l.output ∷ option_to_list l.control) latches

of_lines : List Subckt → List Name
of_lines lines = flat_map (λ (s : Subckt). map (λ (pin : Pin). pin.actual) s.pins) lines

of_ports : Model → List Name
of_ports m = port_names m.ins ++ port_names m.outs ++ port_names m.clocks

from_ports : (m : Model) (name : Name) → In name (of_ports m) → In name (model_names m)
unfolding of_ports of_covers of_latches of_lines
from_ports m name i = in_left (of_ports m ++ of_covers m.covers ++ of_latches m.latches) (of_lines m.subckts) name (in_left (of_ports m ++ of_covers m.covers) (of_latches m.latches) name (in_left (of_ports m) (of_covers m.covers) name i))

pub input_name : (m : Model) (p : Port) → In p m.ins → In p.name (model_names m)
unfolding of_ports
input_name m p i = from_ports m p.name (in_left (port_names m.ins ++ port_names m.outs) (port_names m.clocks) p.name (in_left (port_names m.ins) (port_names m.outs) p.name (in_map (λ (q : Port). q.name) m.ins p i)))

pub output_name : (m : Model) (p : Port) → In p m.outs → In p.name (model_names m)
unfolding of_ports
output_name m p i = from_ports m p.name (in_left (port_names m.ins ++ port_names m.outs) (port_names m.clocks) p.name (in_right (port_names m.ins) (port_names m.outs) p.name (in_map (λ (q : Port). q.name) m.outs p i)))

pub clock_name : (m : Model) (p : Port) → In p m.clocks → In p.name (model_names m)
unfolding of_ports
clock_name m p i = from_ports m p.name (in_right (port_names m.ins ++ port_names m.outs) (port_names m.clocks) p.name (in_map (λ (q : Port). q.name) m.clocks p i))

pub cover_name : (m : Model) (c : Cover) (name : Name) → In c m.covers → In name (c.ins ++ c.out ∷ []) → In name (model_names m)
unfolding of_ports of_covers of_latches of_lines
cover_name m c name i j = in_left (of_ports m ++ of_covers m.covers ++ of_latches m.latches) (of_lines m.subckts) name (in_left (of_ports m ++ of_covers m.covers) (of_latches m.latches) name (in_right (of_ports m) (of_covers m.covers) name (in_flat (λ (c : Cover). c.ins ++ c.out ∷ []) m.covers c name i j)))

pub latch_name : (m : Model) (l : LatchRow) (name : Name) → In l m.latches → In name (l.input ∷ l.output ∷ option_to_list l.control) → In name (model_names m)
unfolding of_ports of_covers of_latches of_lines
latch_name m l name i j = in_left (of_ports m ++ of_covers m.covers ++ of_latches m.latches) (of_lines m.subckts) name (in_right (of_ports m ++ of_covers m.covers) (of_latches m.latches) name (in_flat (λ (l : LatchRow). l.input ∷ l.output ∷ option_to_list l.control) m.latches l name i j))

pub is_net_of : (design : Design) (place : Place) (m : Model) (name : Name) → model_at design place ≡ Some m → In name (model_names m) → IsNet design (net_at place name)
is_net_of design place m name is_m i = (m, is_m, contains_from (model_names m) name i)

-- a port of the main model
pub main_port : (design : Design) (ports_of : Model → List Port) (p : Port) → In p (main_ports ports_of design) → (m : Model) × (main_model design ≡ Some m) × (model_at design [] ≡ Some m) × In p (ports_of m)
main_port design ports_of p i = by (main_model design) refl i
  where
    by : (o : Option Model) → main_model design ≡ o → In p (unwrap_or (option_map ports_of o) []) → (m : Model) × (main_model design ≡ Some m) × (model_at design [] ≡ Some m) × In p (ports_of m)
    by None e i = absurd i
    by (Some m) e i = (m, e, ap (option_and_then (model_below design [])) e, i)

-- What the nets of a driven pattern show, as the variables of a VCD text: a variable for each net
-- in each context, with all nets of context 0 first.
use Rattle.std.specs.Prelude.{◌≡◌, ◌<◌, ℕ, ◌+◌, ◌*◌, max, Bool, false, if◌then◌else◌, List, [], ◌∷◌, ◌++◌, codes, length, map, flat_map, get_or, slice_get, Some, All}
use Rattle.std.specs.List.{range_with_len}
use Rattle.std.specs.Str.{bytes_eq}
use Rattle.ww_rule.specs.Wireworld.{Plane}
use Rattle.pattern_reading.specs.declared.ports.NetLine.{NetLine}
use Rattle.pattern_reading.specs.declared.ports.Ports.{Ports}
use Rattle.streams.specs.Cuts.{with_context}
use Rattle.streams.specs.declared.streams.Streams.{Streams}
use Rattle.drive.specs.Driving.{last_from}
use Rattle.probe_view.specs.Probes.{probed_at}
use Rattle.vcd_write.specs.References.{escaped_reference}
use Rattle.vcd_write.specs.Writing.{Waves}

-- a net in one context
pub record NetInContext : Type 0 where
  pub context : ℕ
  pub net : NetLine

abbrev pub nets_in : (context : ℕ) → List NetLine → List NetInContext
nets_in context nets = map (λ net. record { context = context; net = net }) nets

-- the nets of all contexts, one context after the other
abbrev pub nets_in_contexts : Ports → List NetInContext
nets_in_contexts ports = flat_map (λ context. nets_in context ports.nets) (range_with_len 0 ports.c)

-- Each element of a name is a byte, as in every name that a program holds.
abbrev pub IsByteName : List ℕ → Type 0
IsByteName name = All (λ b. b < 256) name

-- the path of a model before a name, with `/`; the path of the main model is left out
abbrev pub path_before : List ℕ → List ℕ
path_before path = if bytes_eq path (codes "-") then [] else path ++ codes "/"

-- the name under which a net is shown: `path/name`, or `context:path/name` if there are several
-- contexts
abbrev pub reference_of : (contexts : ℕ) → NetInContext → List ℕ
reference_of contexts variable =
    with_context contexts variable.context
    (path_before variable.net.path ++ escaped_reference variable.net.name)

-- the bits of a net in a context, cycle after cycle: 1 where its cell is a head at generation
-- offset + 32 c + t P
abbrev pub shown_of : Ports → Streams → Plane → NetInContext → List Bool
shown_of ports streams plane variable = probed_at ports streams plane variable.context variable.net

-- the variables of all nets in all contexts
abbrev pub net_waves : Ports → Streams → Plane → Waves
net_waves ports streams plane = record {
  cycles = streams.cycles;
  references = map (reference_of ports.c) (nets_in_contexts ports);
  bit =
      λ n cycle. get_or (get_or (map (shown_of ports streams plane)
      (nets_in_contexts ports)) n []) cycle false;
}

-- the greatest of the generations at which nets show their first bits
abbrev pub greatest_offset : List NetLine → ℕ
greatest_offset [] = 0
greatest_offset (net ∷ nets) = max net.offset (greatest_offset nets)

-- the generation of the last bit that one of these nets shows, or 0 without nets
abbrev pub last_of_nets : List NetLine → Ports → Streams → ℕ
last_of_nets [] ports streams = 0
last_of_nets (net ∷ nets) ports streams = last_from (greatest_offset (net ∷ nets)) ports streams

abbrev pub last_of_all_nets : Ports → Streams → ℕ
last_of_all_nets ports streams = last_of_nets ports.nets ports streams

-- If there are n nets, net i in context c is variable c n + i: the variable's bit in a cycle is the
-- one that the net's cell shows.
abbrev pub NetsHaveTheirBits : Type 0
NetsHaveTheirBits =
    (ports : Ports) (streams : Streams) (plane : Plane) (context number : ℕ) (net : NetLine)
    (cycle : ℕ) → context < ports.c → slice_get ports.nets number ≡ Some net
    → (net_waves ports streams plane).bit (context * length ports.nets + number) cycle
    ≡ get_or (probed_at ports streams plane context net) cycle false

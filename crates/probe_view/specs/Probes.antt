-- The bits that a net of a driven pattern shows.
use Rattle.std.specs.Prelude.{◌≡◌, ◌≤◌, ◌<◌, ◌&&◌, ⊤, ℕ, Bool, List, map, Some, None}
use Rattle.std.specs.declared.option.Option.{Option}
use Rattle.std.specs.List.{range_with_len, find}
use Rattle.std.specs.Str.{bytes_eq}
use Rattle.ww_rule.specs.Wireworld.{Plane}
use Rattle.pattern_reading.specs.declared.ports.NetLine.{NetLine}
use Rattle.pattern_reading.specs.declared.ports.Ports.{Ports}
use Rattle.streams.specs.declared.streams.Streams.{Streams}
use Rattle.drive.specs.Driving.{bits_of_cell, first_miss, greatest_generation, last_from}
use Rattle.drive.specs.declared.error.SimulateError.{SimulateError}
use Rattle.drive.specs.declared.error.SimulateError.TheVariants as simulating
use Rattle.probe_view.specs.declared.error.ProbeError.{ProbeError}
use Rattle.probe_view.specs.declared.error.ProbeError.TheVariants.{NoMemory, NoSuchNet, TooFar, NotQuiet}

abbrev pub has_name_and_path : (name path : List ℕ) → NetLine → Bool
has_name_and_path name path net = bytes_eq net.name name && bytes_eq net.path path

-- the net of this name in the model of this path
abbrev pub net_named : Ports → (name path : List ℕ) → Option NetLine
net_named ports name path = find (has_name_and_path name path) ports.nets

-- the bits of a net in a context, cycle after cycle: 1 where its cell is a head at generation
-- offset + 32 c + t P
abbrev pub probed_at : Ports → Streams → Plane → (context : ℕ) → NetLine → List Bool
probed_at ports streams plane context net =
    bits_of_cell ports streams plane net.offset context (net.x, net.y)

-- the bits of a net in each context
abbrev pub probed_bits : Ports → Streams → Plane → NetLine → List (List Bool)
probed_bits ports streams plane net =
    map (λ context. probed_at ports streams plane context net) (range_with_len 0 ports.c)

-- the generation of the last bit of a net
abbrev pub last_probed : Ports → Streams → NetLine → ℕ
last_probed ports streams net = last_from net.offset ports streams

-- There is such a net, all its bits are shown within the limit of generations, each injection up to
-- the last bit meets a conductor, and these are the bits.
pub record HasProbed (ports : Ports) (streams : Streams) (plane : Plane) (name path : List ℕ)
    (bits : List (List Bool)) : Type 0 where
  pub net : NetLine
  pub is_there : net_named ports name path ≡ Some net
  pub near : last_probed ports streams net ≤ greatest_generation
  pub quiet : first_miss ports streams plane (last_probed ports streams net) ≡ None
  pub bits_are : bits ≡ probed_bits ports streams plane net

-- There is such a net, and its last bit is shown at this generation, which is over the limit.
pub record IsTooFar (ports : Ports) (streams : Streams) (name path : List ℕ)
    (generations : ℕ) : Type 0 where
  pub net : NetLine
  pub is_there : net_named ports name path ≡ Some net
  pub needed : generations ≡ last_probed ports streams net
  pub far : greatest_generation < generations

-- There is such a net, all its bits are shown within the limit, and this is the first injection up
-- to the last bit that meets no conductor.
pub record IsNotQuiet (ports : Ports) (streams : Streams) (plane : Plane) (name path : List ℕ)
    (generation x y : ℕ) : Type 0 where
  pub net : NetLine
  pub is_there : net_named ports name path ≡ Some net
  pub near : last_probed ports streams net ≤ greatest_generation
  pub first : first_miss ports streams plane (last_probed ports streams net)
      ≡ Some (record { generation = generation; x = x; y = y })

-- why a probe gives no bits
abbrev pub HasProbeCause : Ports → Streams → Plane → (name path : List ℕ) → ProbeError → Type 0
HasProbeCause ports streams plane name path NoMemory = ⊤
HasProbeCause ports streams plane name path NoSuchNet = net_named ports name path ≡ None
HasProbeCause ports streams plane name path (TooFar generations) =
    IsTooFar ports streams name path generations
HasProbeCause ports streams plane name path (NotQuiet generation x y) =
    IsNotQuiet ports streams plane name path generation x y

-- the error of a probe for each error of its run
abbrev pub probe_error : SimulateError → ProbeError
probe_error simulating.NoMemory = NoMemory
probe_error (simulating.TooFar generations) = TooFar generations
probe_error (simulating.NotQuiet generation x y) = NotQuiet generation x y

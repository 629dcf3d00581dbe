-- What holds for the values of every port table that is read from a text.
use Rattle.std.specs.Prelude.{◌≡◌, ◌≢◌, ◌≤◌, ◌<◌, ◌*◌, ℕ, List, [], Some}
use Rattle.std.specs.List.{AllByRecursion, AllPairs}
use Rattle.pattern_reading.specs.declared.ports.PortLine.{PortLine}
use Rattle.pattern_reading.specs.declared.ports.NetLine.{NetLine}
use Rattle.pattern_reading.specs.declared.ports.Ports.{Ports}
use Rattle.pattern_reading.specs.Numbers.{greatest_number}
use Rattle.pattern_reading.specs.PortLines.{path_in}
use Rattle.pattern_reading.specs.PortTable.{ReadsAsPorts}
use Rattle.pattern_reading.specs.Laws.{HasCellsInside}
use Rattle.pattern_reading.specs.Spelling.{IsPortName, IsSoundAfter, IsSpellable, port_forms}

-- a port's numbers fit 64 bits, and it has a name
pub record IsSoundPort (port : PortLine) : Type 0 where
  pub x : port.x ≤ greatest_number
  pub y : port.y ≤ greatest_number
  pub name : IsPortName port.name

-- a net's numbers fit 64 bits, and it has a name and a path
pub record IsSoundNet (net : NetLine) : Type 0 where
  pub x : net.x ≤ greatest_number
  pub y : net.y ≤ greatest_number
  pub offset : net.offset ≤ greatest_number
  pub name : IsPortName net.name
  pub path : path_in net.path ≡ Some net.path

-- The period is not 0, there is a context, and if there are more each has 32 generations of the
-- period. All numbers fit 64 bits, all names have one or more bytes and no line feed, and no two
-- inputs, no two outputs and no two nets of one path have one name.
pub record IsSoundTable (ports : Ports) : Type 0 where
  pub period : ports.p ≢ 0
  pub p : ports.p ≤ greatest_number
  pub l : ports.l ≤ greatest_number
  pub contexts : ports.c ≢ 0
  pub room : 1 < ports.c → 32 * ports.c ≤ ports.p
  pub ins : AllByRecursion IsSoundPort ports.ins
  pub outs : AllByRecursion IsSoundPort ports.outs
  pub nets : AllByRecursion IsSoundNet ports.nets
  pub one_input : AllPairs (λ a b. a.name ≢ b.name) ports.ins
  pub one_output : AllPairs (λ a b. a.name ≢ b.name) ports.outs
  pub one_net : AllPairs (λ a b. a.name ≡ b.name → a.path ≢ b.path) ports.nets

-- If a text reads as a table, the table is sound.
abbrev pub HasSoundTable : List ℕ → ℕ → ℕ → Type 0
HasSoundTable text width height =
    (ports : Ports) → ReadsAsPorts text width height ports → IsSoundTable ports

-- A sound table whose cells lie in a box is written in lines of which none is at fault there.
abbrev pub HasSoundLines : ℕ → ℕ → Ports → Type 0
HasSoundLines width height ports =
    IsSoundTable ports → HasCellsInside width height ports
    → IsSoundAfter width height [] (port_forms ports)

-- The lines of a sound table can be spelled.
abbrev pub HasSpellableLines : Ports → Type 0
HasSpellableLines ports = IsSoundTable ports → AllByRecursion IsSpellable (port_forms ports)

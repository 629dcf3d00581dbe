-- A pattern driven by streams, and the bits that its outputs show.
use Rattle.std.specs.Prelude.{◌≡◌, ◌≢◌, ◌<◌, ◌≤◌, ⊤, ℕ, ◌+◌, ◌*◌, ◌-◌, Bool, List, [], length, map, flat_map, get_or, All, Some}
use Rattle.std.specs.List.{range_with_len}
use Rattle.std.specs.declared.option.Option.{Option}
use Rattle.ww_rule.specs.declared.pattern.Injection.{Injection}
use Rattle.ww_rule.specs.Wireworld.{Plane, Due, driven}
use Rattle.ww_rule.specs.Injections.{injections_from}
use Rattle.ww_rule.specs.Contexts.{due_of_contexts}
use Rattle.pattern_reading.specs.declared.ports.Ports.{Ports}
use Rattle.pattern_reading.specs.declared.ports.PortLine.{PortLine}
use Rattle.pattern_reading.specs.Ports.{cells_of}
use Rattle.streams.specs.declared.streams.Streams.{Streams}
use Rattle.streams.specs.Rows.{contexts_of}
use Rattle.drive.specs.declared.error.SimulateError.{SimulateError}
use Rattle.drive.specs.declared.error.SimulateError.TheVariants.{NoMemory, TooFar, NotQuiet}
use Rattle.drive.specs.Misses.{first_of_misses}
use Rattle.drive.specs.Shown.{column_of_cell, columns_of_cells}

-- each context and each input of the table has one stream, with a bit for each cycle; there is at
-- least one context, and if there are more, each has 32 generations of the period
pub record AreFor (ports : Ports) (streams : Streams) : Type 0 where
  pub same : streams.c ≡ ports.c
  pub contexts : ports.c ≢ 0
  pub room : 1 < ports.c → 32 * ports.c ≤ ports.p
  pub many : length streams.bits ≡ ports.c * length ports.ins
  pub long : All (λ bits. length bits ≡ streams.cycles) streams.bits

-- the rows of bits of a cycle, one for each context
abbrev pub cycle_rows : Streams → ℕ → List (List Bool)
cycle_rows streams cycle = map (λ rows. get_or rows cycle []) (contexts_of streams)

-- one injection at generation 32 k + t P, at the cell of input i, for each context k, cycle t and
-- input i whose bit is 1: cycle after cycle, in a cycle context after context, and in a context in
-- the order of the inputs
abbrev pub injections_of : Ports → Streams → List Injection
injections_of ports streams =
    flat_map (λ cycle. injections_from (cycle * ports.p) 32 (cells_of ports.ins)
    (cycle_rows streams cycle)) (range_with_len 0 streams.cycles)

-- the heads that the streams make due
abbrev pub due_by : Ports → Streams → Due
due_by ports streams = due_of_contexts ports.p (cells_of ports.ins) (contexts_of streams)

-- the pattern's planes when the streams drive it
abbrev pub driven_by : Ports → Streams → Plane → ℕ → Plane
driven_by ports streams plane = driven (due_by ports streams) plane

-- the first injection up to a generation whose cell is no conductor before it
abbrev pub first_miss : Ports → Streams → Plane → ℕ → Option Injection
first_miss ports streams plane g =
    first_of_misses (injections_of ports streams) (due_by ports streams) plane g

-- the bits that a cell shows in a context, cycle after cycle: 1 where it is a head at generation
-- first + 32 k + t P, k being the context
abbrev pub bits_of_cell : Ports → Streams → Plane → (first context : ℕ) → ℕ × ℕ → List Bool
bits_of_cell ports streams plane first context cell =
    column_of_cell (driven_by ports streams plane) ports.p streams.cycles first context cell

-- the bits of each of these cells in each context: all cells of context 0 first
abbrev pub bits_of_cells : Ports → Streams → Plane → (first : ℕ) → List (ℕ × ℕ) → List (List Bool)
bits_of_cells ports streams plane first cells =
    columns_of_cells (driven_by ports streams plane) ports.c ports.p streams.cycles first cells

-- the bits of an output in a context: those of its cell, from generation L on
abbrev pub shown_at : Ports → Streams → Plane → (context : ℕ) → PortLine → List Bool
shown_at ports streams plane context out =
    bits_of_cell ports streams plane ports.l context (out.x, out.y)

-- the bits of each output in each context: all outputs of context 0 first
abbrev pub shown_bits : Ports → Streams → Plane → List (List Bool)
shown_bits ports streams plane =
    flat_map (λ context. map (shown_at ports streams plane context) ports.outs)
    (range_with_len 0 ports.c)

-- the greatest number of generations that a run may need
abbrev pub greatest_generation : ℕ
greatest_generation = 4294967296

-- the generation at which the last bits are shown, if the first ones are shown at `first`
abbrev pub last_from : (first : ℕ) → Ports → Streams → ℕ
last_from first ports streams = first + 32 * (ports.c - 1) + (streams.cycles - 1) * ports.p

-- the generation of the last bits that outputs show
abbrev pub last_generation : Ports → Streams → ℕ
last_generation ports streams = last_from ports.l ports streams

-- why a run with this first miss does not go on
abbrev pub HasRunCause : Option Injection → SimulateError → Type 0
HasRunCause miss NoMemory = ⊤
HasRunCause miss (TooFar generations) = ⊥
HasRunCause miss (NotQuiet generation x y) =
    miss ≡ Some (record { generation = generation; x = x; y = y })

-- why a run that needs so many generations gives no bits
abbrev pub HasSimulateCause : Ports → Streams → Plane → (needed : ℕ) → SimulateError → Type 0
HasSimulateCause ports streams plane needed NoMemory = ⊤
HasSimulateCause ports streams plane needed (TooFar generations) =
    (generations ≡ needed) × (greatest_generation < needed)
HasSimulateCause ports streams plane needed (NotQuiet generation x y) =
    (needed ≤ greatest_generation) × HasRunCause (first_miss ports streams plane needed)
    (NotQuiet generation x y)

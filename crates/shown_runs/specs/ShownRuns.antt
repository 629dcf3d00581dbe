-- What a text that carries a design, in one context or in several, shows under streams of bits.
use Rattle.std.specs.Prelude.{ℕ, ◌≡◌, Bool, List, [], ◌∷◌, length, map, flat_map, All, Some, None, slice_get}
use Rattle.std.specs.List.{range_with_len}
use Rattle.ww_rule.specs.Wireworld.{Plane}
use Rattle.ww_rule.specs.Grid.{plane_of}
use Rattle.pattern_reading.specs.declared.ports.NetLine.{NetLine}
use Rattle.pattern_reading.specs.declared.ports.Ports.{Ports}
use Rattle.pattern_reading.specs.Ports.{names_of}
use Rattle.pattern_reading.specs.SoundTable.{IsSoundTable}
use Rattle.place_paths.specs.Paths.{path_of}
use Rattle.netlist_core.specs.declared.model.Design.{Design}
use Rattle.netlist_core.specs.Names.{Name}
use Rattle.netlist_meaning.specs.Nets.{Net, IsNet, IsClockNet, IsInNames}
use Rattle.netlist_meaning.specs.Places.{main_outputs}
use Rattle.netlist_meaning.specs.Valuation.{Valuation, LatchState, IsRun, IsRunFrom}
use Rattle.carries.specs.Carries.{Carries}
use Rattle.carries.specs.Nets.{CarriesNets}
use Rattle.carries.specs.Contexts.{AreRunsFrom}
use Rattle.carries.specs.DesignContexts.{CarriesContexts, CarriesNetsInContexts}
use Rattle.streams.specs.declared.streams.Streams.{Streams}
use Rattle.streams.specs.Streams.{HasStreams}
use Rattle.streams.specs.Rows.{contexts_of, in_context, rows_of}
use Rattle.drive.specs.Driving.{AreFor, first_miss, shown_at, shown_bits}
use Rattle.netlist_run.specs.Runs.{bits_in_run}
use Rattle.probe_view.specs.Probes.{probed_at, probed_bits}

-- When the streams drive the pattern, each output of the pattern shows in a context the bits of the
-- main output of its name in the run. So, output by output, the pattern shows in that context what
-- the netlist gives; and lines of names and bits, whatever their form, are the same.
pub record ShowsTheRun (plane : Plane) (ports : Ports) (design : Design) (streams : Streams)
    (context : ℕ) (run : ℕ → Valuation) : Type 0 where
  pub each : All (λ out. shown_at ports streams plane context out
      ≡ bits_in_run run streams.cycles out.name) ports.outs
  pub all : map (shown_at ports streams plane context) ports.outs
      ≡ map (bits_in_run run streams.cycles) (main_outputs design)
  pub lines : (line : Name → List Bool → List ℕ)
      → flat_map (λ out. line out.name (shown_at ports streams plane context out)) ports.outs
      ≡ flat_map (λ name. line name (bits_in_run run streams.cycles name)) (main_outputs design)

-- Under streams for the table's inputs the design has a run in each context, from the context's
-- start on, and for all such runs the pattern shows the run of each context.
pub record ShowsContextsRuns {text : List ℕ} {design : Design} {starts : List LatchState}
    (k : CarriesContexts text design starts) (streams : Streams) : Type 0 where
  pub runs : ℕ → ℕ → Valuation
  pub are_runs : AreRunsFrom (IsRunFrom design) starts (contexts_of streams) runs
  pub shown : (context : ℕ) (start : LatchState) → slice_get starts context ≡ Some start
      → (run : ℕ → Valuation) → IsRunFrom design start (rows_of (in_context streams context)) run
      → ShowsTheRun (plane_of k.grid.rows) k.ports design streams context run
  pub whole : (others : ℕ → ℕ → Valuation)
      → AreRunsFrom (IsRunFrom design) starts (contexts_of streams) others
      → shown_bits k.ports streams (plane_of k.grid.rows)
      ≡ flat_map (λ context. map (bits_in_run (others context) streams.cycles)
      (main_outputs design)) (range_with_len 0 (length starts))

abbrev pub CarriersShowContexts : Type 0
CarriersShowContexts =
    (text : List ℕ) (design : Design) (starts : List LatchState)
    (k : CarriesContexts text design starts) (streams : Streams) → AreFor k.ports streams
    → ShowsContextsRuns k streams

-- if a text carries a design in one context, then under streams for the table's inputs the design
-- has a run, and the pattern shows each of its runs
pub record ShowsEachRun {text : List ℕ} {design : Design} (c : Carries text design)
    (streams : Streams) : Type 0 where
  pub run : ℕ → Valuation
  pub is_run : IsRun design (rows_of streams) run
  pub shown : (other : ℕ → Valuation) → IsRun design (rows_of streams) other
      → ShowsTheRun (plane_of c.grid.rows) c.ports design streams 0 other
  pub whole : (other : ℕ → Valuation) → IsRun design (rows_of streams) other
      → shown_bits c.ports streams (plane_of c.grid.rows)
      ≡ map (bits_in_run other streams.cycles) (main_outputs design)

abbrev pub CarriersShowRuns : Type 0
CarriersShowRuns =
    (text : List ℕ) (design : Design) (c : Carries text design) (streams : Streams)
    → AreFor c.ports streams → ShowsEachRun c streams

-- Each injection meets a conductor: a text that carries a design is quiet when streams for the
-- table's inputs drive it.
abbrev pub CarriersAreQuiet : Type 0
CarriersAreQuiet =
    (text : List ℕ) (design : Design) (starts : List LatchState)
    (k : CarriesContexts text design starts) (streams : Streams) → AreFor k.ports streams
    → (g : ℕ) → first_miss k.ports streams (plane_of k.grid.rows) g ≡ None

abbrev pub OneContextIsQuiet : Type 0
OneContextIsQuiet =
    (text : List ℕ) (design : Design) (c : Carries text design) (streams : Streams)
    → AreFor c.ports streams → (g : ℕ) → first_miss c.ports streams (plane_of c.grid.rows) g ≡ None

-- The streams that words give to the inputs of a sound table, in as many contexts as the table has,
-- are streams for the table.
abbrev pub StreamsAreFor : Type 0
StreamsAreFor =
    (ports : Ports) (words : List (List ℕ)) (streams : Streams) → IsSoundTable ports
    → streams.c ≡ ports.c → HasStreams streams.c words
    (names_of ports.ins) streams.cycles streams.bits → AreFor ports streams

-- The streams that words give to the IN names of the design, in as many contexts as it is carried
-- in, are those that they give to the inputs of the table, and they are streams for the table.
abbrev pub StreamsMatchInContexts : Type 0
StreamsMatchInContexts =
    (text : List ℕ) (design : Design) (starts : List LatchState)
    (k : CarriesContexts text design starts) (words names : List (List ℕ)) (streams : Streams)
    → IsInNames design names
    → IsSoundTable k.ports → streams.c ≡ length starts
    → HasStreams streams.c words names streams.cycles streams.bits
    → HasStreams streams.c words (names_of k.ports.ins) streams.cycles streams.bits
    × AreFor k.ports streams

-- In one context, words give the inputs of the table and the IN names of the design the same
-- streams, one for each input.
abbrev pub StreamsMatch : Type 0
StreamsMatch =
    (text : List ℕ) (design : Design) (c : Carries text design) (words names : List (List ℕ))
    (streams others : Streams) → IsInNames design names
    → streams.c ≡ 1 → others.c ≡ 1 → streams.cycles ≡ others.cycles
    → HasStreams 1 words (names_of c.ports.ins) streams.cycles streams.bits
    → HasStreams 1 words names others.cycles others.bits
    → (streams ≡ others) × AreFor c.ports streams

-- the line is that of a net of the design that is no clock net, with the net's name and the path of
-- its place
pub record IsLineOf (design : Design) (line : NetLine) (net : Net) : Type 0 where
  pub is_net : IsNet design net
  pub no_clock : ¬ IsClockNet design net
  pub name : line.name ≡ net.name
  pub path : line.path ≡ path_of net.place

-- the bits of a net, cycle after cycle
abbrev pub net_bits_in_run : (ℕ → Valuation) → ℕ → Net → List Bool
net_bits_in_run run cycles net =
    map (λ cycle. run cycle net.place net.name) (range_with_len 0 cycles)

-- If a text carries the nets of a design in contexts, then each net line is that of a net, and when
-- streams for the table's inputs drive the pattern, the line's cell shows in each context the net's
-- bits in every run from the context's start on.
abbrev pub CarriersShowNetsInContexts : Type 0
CarriersShowNetsInContexts =
    (text : List ℕ) (design : Design) (starts : List LatchState)
    (k : CarriesNetsInContexts text design starts) (number : ℕ) (line : NetLine)
    → slice_get k.carried.ports.nets number ≡ Some line
    → (net : Net) × IsLineOf design line net
    × ((streams : Streams) → AreFor k.carried.ports streams → (context : ℕ) (start : LatchState)
    → slice_get starts context ≡ Some start
    → (run : ℕ → Valuation) → IsRunFrom design start (rows_of (in_context streams context)) run
    → probed_at k.carried.ports streams (plane_of k.carried.grid.rows) context line
    ≡ net_bits_in_run run streams.cycles net)

-- The same holds in one context, the only one for which the line's cell shows bits.
abbrev pub CarriersShowNets : Type 0
CarriersShowNets =
    (text : List ℕ) (design : Design) (c : CarriesNets text design) (number : ℕ) (line : NetLine)
    → slice_get c.carried.ports.nets number ≡ Some line
    → (net : Net) × IsLineOf design line net
    × ((streams : Streams) → AreFor c.carried.ports streams → (run : ℕ → Valuation)
    → IsRun design (rows_of streams) run
    → probed_bits c.carried.ports streams (plane_of c.carried.grid.rows) line
    ≡ net_bits_in_run run streams.cycles net ∷ [])

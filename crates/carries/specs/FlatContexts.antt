-- What it means that a text carries a flat netlist in several contexts: its pattern, driven at its
-- input cells, shows a run of the flat netlist for each context, each 32 generations after the one
-- before.
use Rattle.std.specs.Prelude.{ℕ, ◌≡◌, List, length, Bool}
use Rattle.ww_rule.specs.Wireworld.{Plane}
use Rattle.ww_rule.specs.Grid.{Grid, plane_of}
use Rattle.ww_rule.specs.Injections.{MeetsConductors}
use Rattle.pattern_reading.specs.declared.ports.Ports.{Ports}
use Rattle.netlist_core.specs.declared.flat.Flat.{Flat}
use Rattle.netlist_meaning.specs.Flat.{listed_nets}
use Rattle.netlist_meaning.specs.FlatValuation.{AreFlatRows, IsFlatRun, flat_output_bit}
use Rattle.carries.specs.Cells.{Spells}
use Rattle.carries.specs.FlatNets.{NamesFlat}
use Rattle.carries.specs.Contexts.{AreContextRows, AreRunsFrom, context_drive, ShowsOutputsInContexts, ShowsNetLinesInContexts}

-- the rows of input bits that drive a flat netlist in `count` contexts
abbrev pub AreFlatContexts : Flat → (count cycles : ℕ) → List (List (List Bool)) → Type 0
AreFlatContexts flat count cycles contexts = AreContextRows (AreFlatRows flat) count cycles contexts

-- When any rows of input bits drive the pattern, for any number of cycles, there is a run of the
-- flat netlist for each context, from its start on. In all such runs each output's cell shows the
-- output's bits, and the cell of each listed net shows the bits of the net's class. A start has a
-- bit for each latch, in order.
pub record ShowsFlatContexts (plane : Plane) (ports : Ports) (flat : Flat)
    (starts : List (List Bool)) : Type 0 where
  pub conductors : (cycles : ℕ) (contexts : List (List (List Bool)))
      → AreFlatContexts flat (length starts) cycles contexts
      → MeetsConductors (context_drive ports contexts) plane
  pub runs : (cycles : ℕ) (contexts : List (List (List Bool)))
      → AreFlatContexts flat (length starts) cycles contexts
      → (runs : ℕ → ℕ → ℕ → Bool) × AreRunsFrom (IsFlatRun flat) starts contexts runs
  pub heads : (cycles : ℕ) (contexts : List (List (List Bool)))
      → AreFlatContexts flat (length starts) cycles contexts → (runs : ℕ → ℕ → ℕ → Bool)
      → AreRunsFrom (IsFlatRun flat) starts contexts runs
      → ShowsOutputsInContexts plane ports cycles contexts (λ c t. flat_output_bit flat (runs c t))
  pub nets : (cycles : ℕ) (contexts : List (List (List Bool)))
      → AreFlatContexts flat (length starts) cycles contexts → (runs : ℕ → ℕ → ℕ → Bool)
      → AreRunsFrom (IsFlatRun flat) starts contexts runs
      → ShowsNetLinesInContexts plane ports cycles contexts (listed_nets flat)
      (λ c t net. runs c t net.class)

-- A text carries a flat netlist in contexts with these starts: it spells a pattern and a port table
-- of as many contexts, the table's names are the netlist's, and the pattern shows the netlist's
-- runs.
pub record CarriesFlatContexts (text : List ℕ) (flat : Flat)
    (starts : List (List Bool)) : Type 0 where
  pub grid : Grid
  pub ports : Ports
  pub spells : Spells text grid ports
  pub contexts : ports.c ≡ length starts
  pub names : NamesFlat ports flat
  pub shows : ShowsFlatContexts (plane_of grid.rows) ports flat starts

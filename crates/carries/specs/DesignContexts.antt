-- What it means that a text carries a design, and its nets, in several contexts: its pattern,
-- driven at its input cells, shows a run of the design for each context, each 32 generations after
-- the one before.
use Rattle.std.specs.Prelude.{ℕ, ◌≡◌, List, length, Bool}
use Rattle.ww_rule.specs.Wireworld.{Plane}
use Rattle.ww_rule.specs.Grid.{Grid, plane_of}
use Rattle.ww_rule.specs.Injections.{MeetsConductors}
use Rattle.pattern_reading.specs.declared.ports.Ports.{Ports}
use Rattle.netlist_core.specs.declared.model.Design.{Design}
use Rattle.netlist_meaning.specs.Nets.{Net}
use Rattle.netlist_meaning.specs.Valuation.{Valuation, LatchState, AreInputRows, IsRunFrom, output_bit}
use Rattle.carries.specs.Cells.{Spells}
use Rattle.carries.specs.Carries.{NamesPorts}
use Rattle.carries.specs.Nets.{AreSeenNets, NamesNets}
use Rattle.carries.specs.Contexts.{AreContextRows, AreRunsFrom, context_drive, ShowsOutputsInContexts, ShowsNetLinesInContexts}

-- the rows of input bits that drive a design in `count` contexts
abbrev pub AreInputContexts : Design → (count cycles : ℕ) → List (List (List Bool)) → Type 0
AreInputContexts design count cycles contexts =
    AreContextRows (AreInputRows design) count cycles contexts

-- when any rows of input bits drive the pattern, for any number of cycles, there is a run of the
-- design for each context, from its start on, and in all such runs each output's cell shows the
-- output's bits
pub record ShowsContexts (plane : Plane) (ports : Ports) (design : Design)
    (starts : List LatchState) : Type 0 where
  pub conductors : (cycles : ℕ) (contexts : List (List (List Bool)))
      → AreInputContexts design (length starts) cycles contexts
      → MeetsConductors (context_drive ports contexts) plane
  pub runs : (cycles : ℕ) (contexts : List (List (List Bool)))
      → AreInputContexts design (length starts) cycles contexts
      → (runs : ℕ → ℕ → Valuation) × AreRunsFrom (IsRunFrom design) starts contexts runs
  pub heads : (cycles : ℕ) (contexts : List (List (List Bool)))
      → AreInputContexts design (length starts) cycles contexts → (runs : ℕ → ℕ → Valuation)
      → AreRunsFrom (IsRunFrom design) starts contexts runs
      → ShowsOutputsInContexts plane ports cycles contexts (λ c t. output_bit design (runs c t))

-- in all such runs the cell of each net's line shows the net's bits
abbrev pub ShowsNetsInContexts : Plane → Ports → Design → List LatchState → List Net → Type 0
ShowsNetsInContexts plane ports design starts nets =
    (cycles : ℕ) (contexts : List (List (List Bool)))
    → AreInputContexts design (length starts) cycles contexts → (runs : ℕ → ℕ → Valuation)
    → AreRunsFrom (IsRunFrom design) starts contexts runs
    → ShowsNetLinesInContexts plane ports cycles contexts nets
    (λ c t net. runs c t net.place net.name)

-- A text carries a design in contexts with these starts, each a state of the design's latches: it
-- spells a pattern and a port table of as many contexts, the table's names are the design's, and
-- the pattern shows the design's runs.
pub record CarriesContexts (text : List ℕ) (design : Design)
    (starts : List LatchState) : Type 0 where
  pub grid : Grid
  pub ports : Ports
  pub spells : Spells text grid ports
  pub contexts : ports.c ≡ length starts
  pub names : NamesPorts ports design
  pub shows : ShowsContexts (plane_of grid.rows) ports design starts

-- A text carries the nets of a design in contexts: it carries the design in them, each net except
-- the clock nets has a line in the same table, and the line's cell shows the net in the same
-- pattern.
pub record CarriesNetsInContexts (text : List ℕ) (design : Design)
    (starts : List LatchState) : Type 0 where
  pub carried : CarriesContexts text design starts
  pub nets : List Net
  pub are_nets : AreSeenNets design nets
  pub names : NamesNets carried.ports nets
  pub shows : ShowsNetsInContexts (plane_of carried.grid.rows) carried.ports design starts nets

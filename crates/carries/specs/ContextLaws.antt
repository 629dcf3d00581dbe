-- What a text that carries a design in several contexts shows of each context, and that a text
-- carries a design exactly when it carries it in one context that begins with the start state.
use Rattle.std.specs.Prelude.{pos, ℕ, ◌+◌, ◌*◌, ◌<◌, ◌≡◌, ◌≢◌, ◌↔◌, List, [], ◌∷◌, length, get_or, Bool, true, Some, slice_get}
use Rattle.ww_rule.specs.declared.pattern.State.TheVariants.{Head}
use Rattle.ww_rule.specs.Wireworld.{driven}
use Rattle.ww_rule.specs.Grid.{plane_of}
use Rattle.pattern_reading.specs.declared.ports.PortLine.{PortLine}
use Rattle.pattern_reading.specs.declared.ports.NetLine.{NetLine}
use Rattle.netlist_core.specs.declared.model.Design.{Design}
use Rattle.netlist_core.specs.declared.flat.Flat.{Flat}
use Rattle.netlist_meaning.specs.Nets.{Net}
use Rattle.netlist_meaning.specs.FlatValuation.{start_bits}
use Rattle.netlist_meaning.specs.Valuation.{Valuation, LatchState, IsRunFrom, start_state, output_bit}
use Rattle.carries.specs.Carries.{Carries}
use Rattle.carries.specs.Nets.{CarriesNets}
use Rattle.carries.specs.FlatNets.{CarriesFlat}
use Rattle.carries.specs.Contexts.{context_drive}
use Rattle.carries.specs.FlatContexts.{CarriesFlatContexts}
use Rattle.carries.specs.DesignContexts.{AreInputContexts, CarriesContexts, CarriesNetsInContexts}

-- a text carries a design exactly when it carries it in one context that begins with the start
-- state
abbrev pub OneContextCarries : Type 0
OneContextCarries =
    (text : List ℕ) (design : Design) → Carries text design
    ↔ CarriesContexts text design (start_state design ∷ [])

abbrev pub OneContextCarriesNets : Type 0
OneContextCarriesNets =
    (text : List ℕ) (design : Design) → CarriesNets text design
    ↔ CarriesNetsInContexts text design (start_state design ∷ [])

abbrev pub OneContextCarriesFlat : Type 0
OneContextCarriesFlat =
    (text : List ℕ) (flat : Flat) → CarriesFlat text flat
    ↔ CarriesFlatContexts text flat (start_bits flat ∷ [])

-- when rows of input bits drive each context, in a run on the rows of context c, whatever the other
-- contexts are:
pub record ShowsContextCycles {text : List ℕ} {design : Design} {starts : List LatchState}
    (k : CarriesContexts text design starts) (cycles : ℕ) (contexts : List (List (List Bool)))
    (c : ℕ) (run : ℕ → Valuation) : Type 0 where
  -- the cell of an output is a head at generation L + 32 c + t P, for each cycle t, exactly when
  -- the output's bit is 1 in the cycle
  pub bits : (output : ℕ) (cell : PortLine) → slice_get k.ports.outs output ≡ Some cell → (t : ℕ)
      → t < cycles
      → (driven (context_drive k.ports contexts) (plane_of k.grid.rows)
      (k.ports.l + 32 * c + t * k.ports.p) (pos cell.x) (pos cell.y) ≡ Head)
      ↔ (output_bit design (run t) output ≡ true)
  -- and it is no head below generation L
  pub dark : (output : ℕ) (cell : PortLine) → slice_get k.ports.outs output ≡ Some cell → (g : ℕ)
      → g < k.ports.l
      → driven (context_drive k.ports contexts) (plane_of k.grid.rows) g (pos cell.x) (pos cell.y)
      ≢ Head

-- a text that carries a design in contexts shows each cycle of each run from a context's start on
abbrev pub CarriesEachContext : Type 0
CarriesEachContext =
    (text : List ℕ) (design : Design) (starts : List LatchState)
    (k : CarriesContexts text design starts)
    (cycles : ℕ) (contexts : List (List (List Bool)))
    → AreInputContexts design (length starts) cycles contexts
    → (c : ℕ) (start : LatchState) → slice_get starts c ≡ Some start → (run : ℕ → Valuation)
    → IsRunFrom design start (get_or contexts c []) run
    → ShowsContextCycles k cycles contexts c run

-- If the text also carries the nets, the cell of a net's line is a head at generation
-- offset + 32 c + t P, for each cycle t, exactly when the net's bit is 1 in the cycle.
abbrev pub CarriesNetsOfEachContext : Type 0
CarriesNetsOfEachContext =
    (text : List ℕ) (design : Design) (starts : List LatchState)
    (k : CarriesNetsInContexts text design starts)
    (cycles : ℕ) (contexts : List (List (List Bool)))
    → AreInputContexts design (length starts) cycles contexts
    → (c : ℕ) (start : LatchState) → slice_get starts c ≡ Some start → (run : ℕ → Valuation)
    → IsRunFrom design start (get_or contexts c []) run
    → (number : ℕ) (net : Net) (line : NetLine) → slice_get k.nets number ≡ Some net
    → slice_get k.carried.ports.nets number ≡ Some line
    → (t : ℕ) → t < cycles
    → (driven (context_drive k.carried.ports contexts) (plane_of k.carried.grid.rows)
    (line.offset + 32 * c + t * k.carried.ports.p) (pos line.x) (pos line.y) ≡ Head)
    ↔ (run t net.place net.name ≡ true)

-- under two drives that have the same rows for context c, each output's cell is a head at the same
-- generations L + 32 c + t P, whatever the rows of the other contexts are
abbrev pub OutputsAreIsolated : Type 0
OutputsAreIsolated =
    (text : List ℕ) (design : Design) (starts : List LatchState)
    (k : CarriesContexts text design starts)
    (cycles : ℕ) (contexts others : List (List (List Bool)))
    → AreInputContexts design (length starts) cycles contexts
    → AreInputContexts design (length starts) cycles others
    → (c : ℕ) → c < length starts → get_or contexts c [] ≡ get_or others c []
    → (output : ℕ) (cell : PortLine) → slice_get k.ports.outs output ≡ Some cell → (t : ℕ)
    → (driven (context_drive k.ports contexts) (plane_of k.grid.rows)
    (k.ports.l + 32 * c + t * k.ports.p) (pos cell.x) (pos cell.y) ≡ Head)
    ↔ (driven (context_drive k.ports others) (plane_of k.grid.rows)
    (k.ports.l + 32 * c + t * k.ports.p) (pos cell.x) (pos cell.y) ≡ Head)

-- the cell of each net's line is a head at the same generations offset + 32 c + t P, too
abbrev pub NetsAreIsolated : Type 0
NetsAreIsolated =
    (text : List ℕ) (design : Design) (starts : List LatchState)
    (k : CarriesNetsInContexts text design starts)
    (cycles : ℕ) (contexts others : List (List (List Bool)))
    → AreInputContexts design (length starts) cycles contexts
    → AreInputContexts design (length starts) cycles others
    → (c : ℕ) → c < length starts → get_or contexts c [] ≡ get_or others c []
    → (number : ℕ) (net : Net) (line : NetLine) → slice_get k.nets number ≡ Some net
    → slice_get k.carried.ports.nets number ≡ Some line → (t : ℕ)
    → (driven (context_drive k.carried.ports contexts) (plane_of k.carried.grid.rows)
    (line.offset + 32 * c + t * k.carried.ports.p) (pos line.x) (pos line.y) ≡ Head)
    ↔ (driven (context_drive k.carried.ports others) (plane_of k.carried.grid.rows)
    (line.offset + 32 * c + t * k.carried.ports.p) (pos line.x) (pos line.y) ≡ Head)

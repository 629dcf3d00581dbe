-- What the outputs of a design show in a run under streams.
use Rattle.std.specs.Prelude.{ℕ, ◌≡◌, ◌<◌, List, [], Bool, map}
use Rattle.std.specs.List.{range_with_len}
use Rattle.netlist_core.specs.declared.model.Design.{Design}
use Rattle.netlist_core.specs.declared.flat.Flat.{Flat}
use Rattle.netlist_core.specs.Names.{Name}
use Rattle.netlist_meaning.specs.Places.{main_outputs}
use Rattle.netlist_meaning.specs.Valuation.{Valuation, IsRun, IsValuation, start_state, latches_in, output_bits}
use Rattle.flat_designs.specs.Laws.{state_in_order}
use Rattle.netlist_text.specs.Parts.{AreParts}
use Rattle.streams.specs.declared.streams.Streams.{Streams}
use Rattle.streams.specs.Rows.{rows_of, stream_row}

-- the bits of a net of the main model, cycle after cycle
abbrev pub bits_in_run : (ℕ → Valuation) → ℕ → Name → List Bool
bits_in_run run cycles name = map (λ cycle. run cycle [] name) (range_with_len 0 cycles)

-- these are the bits of the main outputs in a run on the streams
pub record ShowsRun (design : Design) (streams : Streams) (shown : List (List Bool)) : Type 0 where
  pub run : ℕ → Valuation
  pub is_run : IsRun design (rows_of streams) run
  pub bits : shown ≡ map (bits_in_run run streams.cycles) (main_outputs design)

-- the bits of the outputs in each of so many cycles
abbrev pub output_rows : Design → ℕ → (ℕ → Valuation) → List (List Bool)
output_rows design cycles run =
    map (λ cycle. output_bits design (run cycle)) (range_with_len 0 cycles)

-- the run of the first cycles, the outputs' bits in them, and the state after them
pub record Ran (design : Design) (streams : Streams) (cycles : ℕ) (rows : List (List Bool))
    (state : List Bool) : Type 0 where
  pub run : ℕ → Valuation
  pub holds : (t : ℕ) → t < cycles → IsValuation design (stream_row streams t)
      (latches_in design (start_state design) run t) (run t)
  pub are_rows : rows ≡ output_rows design cycles run
  pub state_is : state ≡ state_in_order design (latches_in design (start_state design) run cycles)

-- the outputs' bits, row by row, in a run of any design whose flat netlist this is
abbrev pub AreRowsInRun : Flat → Streams → List (List Bool) → Type 0
AreRowsInRun flat streams rows =
    (design : Design) (order : List ℕ) → AreParts design flat order
    → (state : List Bool) × Ran design streams streams.cycles rows state

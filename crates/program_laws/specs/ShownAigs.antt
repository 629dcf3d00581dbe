-- What a text that carries a circuit shows under streams of bits.
use Rattle.std.specs.Prelude.{ℕ, ◌≡◌, Bool, List, map}
use Rattle.std.specs.List.{range_with_len}
use Rattle.ww_rule.specs.Grid.{plane_of}
use Rattle.streams.specs.declared.streams.Streams.{Streams}
use Rattle.streams.specs.Rows.{rows_of}
use Rattle.drive.specs.Driving.{AreFor, shown_bits}
use Rattle.aiger_text.specs.declared.aig.Aig.{Aig}
use Rattle.aiger_text.specs.SoundAig.{IsSoundAig}
use Rattle.aiger_meaning.specs.Circuit.{IsAigRun}
use Rattle.aiger_plans.specs.CarriesAig.{CarriesAig}

-- the bits of a literal in a run, cycle after cycle
abbrev pub aig_bits_in_run : (ℕ → ℕ → Bool) → ℕ → ℕ → List Bool
aig_bits_in_run run cycles lit = map (λ cycle. run cycle lit) (range_with_len 0 cycles)

-- under streams for the table's inputs the circuit has a run, and in each of its runs the pattern
-- shows the bits of the outputs, in order
pub record ShowsEachAigRun {text : List ℕ} {aig : Aig} (c : CarriesAig text aig)
    (streams : Streams) : Type 0 where
  pub run : ℕ → ℕ → Bool
  pub is_run : IsAigRun aig (rows_of streams) run
  pub shown : (other : ℕ → ℕ → Bool) → IsAigRun aig (rows_of streams) other
      → shown_bits c.ports streams (plane_of c.grid.rows)
      ≡ map (aig_bits_in_run other streams.cycles) aig.outputs

abbrev pub CarriersShowAigRuns : Type 0
CarriersShowAigRuns =
    (text : List ℕ) (aig : Aig) → IsSoundAig aig → (c : CarriesAig text aig) (streams : Streams)
    → AreFor c.ports streams → ShowsEachAigRun c streams

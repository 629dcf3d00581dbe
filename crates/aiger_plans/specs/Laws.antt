-- A text that carries the flat netlist of a circuit carries the circuit, and what it then shows,
-- cycle by cycle.
use Rattle.std.specs.Prelude.{pos, ℕ, ◌+◌, ◌*◌, ◌<◌, ◌≡◌, ◌≢◌, ◌↔◌, List, length, Bool, true, Some, slice_get}
use Rattle.ww_rule.specs.declared.pattern.State.TheVariants.{Head}
use Rattle.ww_rule.specs.Wireworld.{driven}
use Rattle.ww_rule.specs.Grid.{plane_of}
use Rattle.pattern_reading.specs.declared.ports.PortLine.{PortLine}
use Rattle.netlist_core.specs.declared.flat.Flat.{Flat}
use Rattle.aiger_text.specs.declared.aig.Aig.{Aig}
use Rattle.aiger_meaning.specs.Circuit.{AreAigRows, IsAigRun, aig_output_bit}
use Rattle.aiger_meaning.specs.Lowered.{IsLowered}
use Rattle.carries.specs.Cells.{drive}
use Rattle.carries.specs.FlatNets.{CarriesFlat}
use Rattle.aiger_plans.specs.CarriesAig.{CarriesAig}

abbrev pub AigsAreCarried : Type 0
AigsAreCarried =
    (text : List ℕ) (aig : Aig) (flat : Flat) → CarriesFlat text flat → IsLowered aig flat
    → CarriesAig text aig

-- when rows of input bits drive the pattern, in a run on them:
pub record ShowsAigCycles {text : List ℕ} {aig : Aig} (c : CarriesAig text aig)
    (rows : List (List Bool)) (run : ℕ → ℕ → Bool) : Type 0 where
  -- the cell of an output is a head at generation L + t P, for each cycle t, exactly when the
  -- output's bit is 1 in the cycle
  pub bits : (output : ℕ) (cell : PortLine) → slice_get c.ports.outs output ≡ Some cell → (t : ℕ)
      → t < length rows
      → (driven (drive c.ports rows) (plane_of c.grid.rows) (c.ports.l + t * c.ports.p) (pos cell.x)
      (pos cell.y) ≡ Head) ↔ (aig_output_bit aig (run t) output ≡ true)
  -- and it is no head below generation L
  pub dark : (output : ℕ) (cell : PortLine) → slice_get c.ports.outs output ≡ Some cell → (g : ℕ)
      → g < c.ports.l
      → driven (drive c.ports rows) (plane_of c.grid.rows) g (pos cell.x) (pos cell.y) ≢ Head

-- a text that carries a circuit shows each cycle of each run
abbrev pub CarriesAigCycles : Type 0
CarriesAigCycles =
    (text : List ℕ) (aig : Aig) (c : CarriesAig text aig) (rows : List (List Bool))
    → AreAigRows aig rows
    → (run : ℕ → ℕ → Bool) → IsAigRun aig rows run → ShowsAigCycles c rows run

-- in two runs of a circuit that a text carries, on the same rows, each output has the same bits
abbrev pub OneAigRunIsShown : Type 0
OneAigRunIsShown =
    (text : List ℕ) (aig : Aig) (c : CarriesAig text aig) (rows : List (List Bool))
    → AreAigRows aig rows
    → (run other : ℕ → ℕ → Bool) → IsAigRun aig rows run → IsAigRun aig rows other
    → (output : ℕ) (cell : PortLine) → slice_get c.ports.outs output ≡ Some cell → (t : ℕ)
    → t < length rows → aig_output_bit aig (run t) output ≡ aig_output_bit aig (other t) output

-- What `simulate` prints of the text that `tape` writes.
use Rattle.std.specs.Prelude.{ℕ, ◌≡◌, ◌≤◌, Bool, List, length, flat_map}
use Rattle.netlist_core.specs.declared.model.Design.{Design}
use Rattle.netlist_meaning.specs.Places.{main_outputs}
use Rattle.netlist_meaning.specs.Valuation.{Valuation, AreInputRows, IsRun}
use Rattle.carries.specs.ByItself.{IsRunOnward, ThenZeros}
use Rattle.streams.specs.Rows.{rows_of}
use Rattle.netlist_run.specs.Runs.{bits_in_run}
use Rattle.command_words.specs.Shapes.{simulate, eval, tape}
use Rattle.blifww_tool.specs.Lines.{bits_line}
use Rattle.blifww_tool.specs.Evaluation.{Evaluation, IsEvaluation}
use Rattle.blifww_tool.specs.Commands.{Prints}

-- The rows are rows of input bits of the design, and there is a run of the design on them, which
-- goes on with rows of 0. The lines are those of
-- the main outputs in every run on the rows, with as many rows of 0 after them as the cycles need.
pub record PrintsOnward (design : Design) (rows : List (List Bool)) (cycles : ℕ)
    (shown : List ℕ) : Type 0 where
  pub rows_fit : AreInputRows design rows
  pub run : (run : ℕ → Valuation) × IsRunOnward design rows run
  pub lines : (all : List (List Bool)) → ThenZeros rows all → AreInputRows design all
      → cycles ≤ length all → (run : ℕ → Valuation) → IsRun design all run
      → shown ≡ flat_map (λ name. bits_line name (bits_in_run run cycles name))
      (main_outputs design)

-- what `simulate` prints of a tape's text, for any number of cycles, even for more than the tape
-- has
abbrev pub TapesPrintRuns : Type 0
TapesPrintRuns =
    (cycles : ℕ) (words : List (List ℕ)) (netlist text : List ℕ)
    → Prints (tape cycles words) netlist text
    → (e : Evaluation) × IsEvaluation cycles words netlist e
    × ((many : ℕ) (given : List (List ℕ)) (shown : List ℕ) → Prints (simulate many given) text shown
    → PrintsOnward e.design (rows_of e.streams) many shown)

-- for as many cycles as the tape has, `simulate` prints what `eval` prints of the netlist under the
-- words of the tape
abbrev pub TapesPrintAlike : Type 0
TapesPrintAlike =
    (cycles : ℕ) (words given : List (List ℕ)) (netlist text shown evaluated : List ℕ)
    → Prints (tape cycles words) netlist text
    → Prints (simulate cycles given) text shown → Prints (eval cycles words) netlist evaluated
    → shown ≡ evaluated

-- What a text that runs by itself shows, whatever streams are given: it has no inputs, so they
-- drive nothing.
use Rattle.std.specs.Prelude.{ℕ, ◌≡◌, ◌≤◌, Bool, List, length, map, None, Some, slice_get}
use Rattle.ww_rule.specs.Grid.{plane_of}
use Rattle.pattern_reading.specs.declared.ports.NetLine.{NetLine}
use Rattle.netlist_core.specs.declared.model.Design.{Design}
use Rattle.netlist_meaning.specs.Nets.{Net}
use Rattle.netlist_meaning.specs.Places.{main_outputs}
use Rattle.netlist_meaning.specs.Valuation.{Valuation, AreInputRows, IsRun}
use Rattle.carries.specs.ByItself.{ThenZeros, RunsByItself}
use Rattle.streams.specs.declared.streams.Streams.{Streams}
use Rattle.drive.specs.Driving.{AreFor, first_miss, shown_bits}
use Rattle.netlist_run.specs.Runs.{bits_in_run}
use Rattle.probe_view.specs.Probes.{probed_at}
use Rattle.shown_runs.specs.ShownRuns.{ShowsTheRun, net_bits_in_run}

-- In a run of the design on the rows, and on any number of rows of 0 after them, for at most as
-- many cycles: each output shows the bits of the main output of its name, and each net shows its
-- bits. So `simulate` shows for the text what the netlist gives on the rows, and goes on with 0.
pub record RunnerShows {text : List ℕ} {design : Design} {rows : List (List Bool)}
    (k : RunsByItself text design rows) (run : ℕ → Valuation) (streams : Streams) : Type 0 where
  pub outs : ShowsTheRun (plane_of k.grid.rows) k.ports design streams 0 run
  pub whole : shown_bits k.ports streams (plane_of k.grid.rows)
      ≡ map (bits_in_run run streams.cycles) (main_outputs design)
  pub nets : (number : ℕ) (net : Net) (line : NetLine) → slice_get k.seen number ≡ Some net
      → slice_get k.ports.nets number ≡ Some line
      → probed_at k.ports streams (plane_of k.grid.rows) 0 line
      ≡ net_bits_in_run run streams.cycles net
  pub quiet : (g : ℕ) → first_miss k.ports streams (plane_of k.grid.rows) g ≡ None

abbrev pub RunnersShowRuns : Type 0
RunnersShowRuns =
    (text : List ℕ) (design : Design) (rows : List (List Bool)) (k : RunsByItself text design rows)
    (all : List (List Bool)) → ThenZeros rows all → AreInputRows design all → (run : ℕ → Valuation)
    → IsRun design all run
    → (streams : Streams) → AreFor k.ports streams → streams.cycles ≤ length all
    → RunnerShows k run streams

-- Runs of a netlist agree.
use Rattle.std.specs.Prelude.{ℕ, ◌<◌, ◌≡◌, Bool, List, length, Contains}
use Rattle.netlist_core.specs.declared.model.Design.{Design}
use Rattle.netlist_meaning.specs.Nets.{Net}
use Rattle.netlist_meaning.specs.Places.{main_outputs}
use Rattle.netlist_meaning.specs.Valuation.{Valuation, AreInputRows, IsRun, output_bit}
use Rattle.netlist_text.specs.NetlistText.{IsNetlist}
use Rattle.carries.specs.Nets.{AreSeenNets}

-- runs of the design on the same rows have the same bits at its outputs and at these nets
pub record RunsAgree (design : Design) (seen : List Net) : Type 0 where
  pub outs : (rows : List (List Bool)) → AreInputRows design rows → (run other : ℕ → Valuation)
      → IsRun design rows run → IsRun design rows other → (t i : ℕ) → t < length rows
      → i < length (main_outputs design)
      → output_bit design (run t) i ≡ output_bit design (other t) i
  pub nets : (rows : List (List Bool)) → AreInputRows design rows → (run other : ℕ → Valuation)
      → IsRun design rows run → IsRun design rows other → (t : ℕ) (net : Net) → t < length rows
      → Contains seen net → run t net.place net.name ≡ other t net.place net.name

-- the runs of a netlist on the same rows have the same bits at its outputs and at its nets, but at
-- the clock nets
abbrev pub NetlistRunsAgree : Type 0
NetlistRunsAgree =
    (text : List ℕ) (design : Design) → IsNetlist text design → (seen : List Net)
    → AreSeenNets design seen → RunsAgree design seen

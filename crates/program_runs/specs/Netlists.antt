-- Runs that write the netlist of a pattern.
use Rattle.std.specs.Prelude.{◌≡◌, ℕ, List, ◌++◌, Some}
use Rattle.netlist_core.specs.declared.model.Design.{Design}
use Rattle.netlist_meaning.specs.Nets.{Net}
use Rattle.netlist_meaning.specs.Loop.{IsCombinationalLoop}
use Rattle.netlist_rules.specs.Clocks.{HasNoClockFault}
use Rattle.blif_text.specs.Faults.{IsDesignOf}
use Rattle.carries.specs.Carries.{Carries}
use Rattle.program_runs.specs.Runs.{Reading, Writing}

-- The netlist's text is this design, which breaks no rule and has no loop, and the text of the
-- pattern carries it.
pub record IsNetlistOf (text netlist : List ℕ) (design : Design) : Type 0 where
  pub design_of : IsDesignOf netlist design
  pub clocks : HasNoClockFault design
  pub no_loop : (nets : List Net) → IsCombinationalLoop design nets → ⊥
  pub carries : Carries text design

-- the bytes that the output gained are the text of a netlist without a fault or a loop, and the
-- bytes that the source had left carry this netlist
abbrev pub WritesItsNetlist : Reading → Writing → Type 0
WritesItsNetlist src out =
    (text before : List ℕ) → src.left ≡ Some text → out.written ≡ Some before
    → (netlist : List ℕ) × (out.written_after ≡ Some (before ++ netlist))
    × (design : Design) × IsNetlistOf text netlist design

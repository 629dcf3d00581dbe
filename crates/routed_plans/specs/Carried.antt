-- What the text of a routed circuit of a flat netlist carries.
use Rattle.std.specs.Prelude.{ℕ, List, ◌++◌}
use Rattle.ww_rule.specs.Patterns.{grid_of}
use Rattle.pattern_writing.specs.WrittenText.{pattern_text}
use Rattle.netlist_core.specs.declared.model.Design.{Design}
use Rattle.netlist_core.specs.declared.flat.Flat.{Flat}
use Rattle.netlist_meaning.specs.FlatOf.{IsFlatOf}
use Rattle.netlist_rules.specs.ModelFaults.{AreFaultless}
use Rattle.netlist_rules.specs.Clocks.{HasNoClockFault}
use Rattle.carries.specs.Carries.{Carries}
use Rattle.carries.specs.Cells.{Spells}
use Rattle.routed_plans.specs.declared.routes.Routed.{Routed}

-- the text that is written of a routed circuit: the lines that name its gates and its wires, and then
-- its pattern, with the lines of its port table
abbrev pub text_of_routed : Routed → List ℕ
text_of_routed routed = routed.lines ++ pattern_text (grid_of routed.pattern) routed.ports

-- the text carries each design without a fault whose flat netlist this is
abbrev pub CarriesDesignsOf : (text : List ℕ) → Flat → Type 0
CarriesDesignsOf text flat =
    (design : Design) → AreFaultless design.models → HasNoClockFault design
    → IsFlatOf design flat → Carries text design

-- The written text of a routed circuit reads as its pattern and its table, and carries the designs of
-- the flat netlist.
pub record IsRoutedFor (flat : Flat) (routed : Routed) : Type 0 where
  pub spells : Spells (text_of_routed routed) (grid_of routed.pattern) routed.ports
  pub carries : CarriesDesignsOf (text_of_routed routed) flat

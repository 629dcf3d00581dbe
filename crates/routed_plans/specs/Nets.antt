-- Which nets of a design the text of a routed circuit shows.
use Rattle.std.specs.Prelude.{ℕ, List, All, Contains}
use Rattle.ww_rule.specs.Grid.{plane_of}
use Rattle.netlist_core.specs.declared.model.Design.{Design}
use Rattle.netlist_core.specs.declared.flat.Flat.{Flat}
use Rattle.netlist_meaning.specs.Nets.{Net}
use Rattle.netlist_meaning.specs.FlatOf.{IsFlatOf}
use Rattle.netlist_rules.specs.ModelFaults.{AreFaultless}
use Rattle.netlist_rules.specs.Clocks.{HasNoClockFault}
use Rattle.carries.specs.Carries.{Carries}
use Rattle.carries.specs.Nets.{AreSeenNets, NamesNets, ShowsNets, CarriesNets}
use Rattle.routed_plans.specs.declared.nets.ShownNets.{ShownNets}
use Rattle.routed_plans.specs.declared.nets.ShownNets.TheVariants as which

-- A text shows its nets: it carries the design, each of its table's NET lines names a net of the
-- design that is no clock net, and the line's cell shows the net's bits at every generation. Which
-- of these nets have lines is left open.
pub record ShowsItsNets (text : List ℕ) (design : Design) : Type 0 where
  pub carried : Carries text design
  pub seen : List Net
  pub are_seen : AreSeenNets design seen
  pub nets : List Net
  pub among : All (Contains seen) nets
  pub names : NamesNets carried.ports nets
  pub shows : ShowsNets (plane_of carried.grid.rows) carried.ports design nets

-- the text shows those of the design's nets that are drawn, or all of them but the clock nets
abbrev pub ShowsNetsBy : ShownNets → (text : List ℕ) → Design → Type 0
ShowsNetsBy which.Drawn text design = ShowsItsNets text design
ShowsNetsBy which.All text design = CarriesNets text design

-- so it does for each design without a fault whose flat netlist this is
abbrev pub ShowsNetsOf : ShownNets → (text : List ℕ) → Flat → Type 0
ShowsNetsOf nets text flat =
    (design : Design) → AreFaultless design.models → HasNoClockFault design
    → IsFlatOf design flat → ShowsNetsBy nets text design

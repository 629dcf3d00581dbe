-- Which texts are netlists, and what each of the others is refused for.
use Rattle.std.specs.Prelude.{ℕ, ◌≡◌, ◌≢◌, ◌≤◌, ◌<◌, ◌^◌, ◌-◌, min, List, map, All, AllPairs}
use Rattle.netlist_core.specs.declared.model.Design.{Design}
use Rattle.netlist_core.specs.Names.{Name}
use Rattle.netlist_meaning.specs.Nets.{Net}
use Rattle.netlist_meaning.specs.Roots.{root}
use Rattle.netlist_meaning.specs.Weight.{weight}
use Rattle.netlist_meaning.specs.Loop.{IsCombinationalLoop}
use Rattle.netlist_rules.specs.declared.fault.Fault.{Fault}
use Rattle.netlist_rules.specs.Clocks.{IsClockFault, HasNoClockFault}
use Rattle.blif_text.specs.LogicalLines.{logical_lines}
use Rattle.blif_text.specs.Faults.{HasFault, IsDesignOf}
use Rattle.netlist_core.specs.Limit.{weight_limit}

-- the text is this design, whose weight is within the limit
pub record IsLight (text : List ℕ) (design : Design) : Type 0 where
  pub design_of : IsDesignOf text design
  pub light : weight design ≤ weight_limit

-- The text is a netlist: its design is within the limit and has no fault of clocks, and no covers
-- read each other in a circle.
pub record IsNetlist (text : List ℕ) (design : Design) : Type 0 where
  pub is : IsLight text design
  pub clocks : HasNoClockFault design
  pub no_loop : (nets : List Net) → IsCombinationalLoop design nets → ⊥

-- the text has a fault by a rule on lines or models or, if its design is within the limit, by a
-- rule on clocks
pub data IsAtFault (text : List ℕ) (fault : Fault) : Type 0 where
  of_text : HasFault (logical_lines text) fault → IsAtFault text fault
  of_clocks : {design : Design} → IsLight text design → IsClockFault design fault
      → IsAtFault text fault

-- the text's design is over the limit; `told` is its weight, or the greatest u64 if that is less
pub record IsTooHeavy (text : List ℕ) (told : ℕ) : Type 0 where
  pub design : Design
  pub design_of : IsDesignOf text design
  pub heavy : weight_limit < weight design
  pub is_told : told ≡ min (weight design) (2 ^ 64 - 1)

-- covers read each other in a circle, and these are the names of its nets: each net is the one
-- nearest the main model among those joined with it, and none stands twice
pub record HasLoop (text : List ℕ) (names : List Name) : Type 0 where
  pub design : Design
  pub is : IsLight text design
  pub clocks : HasNoClockFault design
  pub nets : List Net
  pub is_loop : IsCombinationalLoop design nets
  pub are_roots : All (λ net. root design net ≡ net) nets
  pub are_distinct : AllPairs (λ a b. a ≢ b) nets
  pub are_names : names ≡ map (λ net. net.name) nets

-- The two faults of clocks, in the design and in the flat netlist.
use Rattle.netlist_rules.specs.FlatClocks.{IsFlatTwoClocks, IsFlatClockRead, IsFlatClockFault}
use Rattle.netlist_rules.specs.Clocks.{IsClockFault, IsTwoClocks, HasOneClock, IsClockRead}
use Rattle.netlist_rules.specs.declared.fault.Fault.{Fault}
use Rattle.std.specs.Prelude.{ℕ, ◌↔◌}
use Rattle.netlist_core.specs.declared.model.Design.{Design}
use Rattle.netlist_core.specs.Names.{Name}
use Rattle.netlist_meaning.specs.Nets.{Net, IsNet, IsClockNet}
use Rattle.netlist_rules.specs.ModelFaults.{AreFaultless}
use Rattle.netlist_core.specs.declared.flat.Flat.{Flat}
use Rattle.netlist_meaning.specs.Flat.{class_of, IsClockClass}
use Rattle.netlist_meaning.specs.FlatOf.{id_of, IsFlatOf}

-- if all latches have one clock, the clock classes are those of clock nets
abbrev pub ClockClassesAreClockNets : Type 0
ClockClassesAreClockNets =
    (design : Design) (flat : Flat) → AreFaultless design.models → HasOneClock design
    → IsFlatOf design flat → (net : Net) → IsNet design net
    → IsClockClass flat (class_of flat (id_of design net.place net.name)) ↔ IsClockNet design net

-- A design has a fault of two clocks exactly if its flat netlist has it, at the same line and word.
abbrev pub TwoClocksAreFlat : Type 0
TwoClocksAreFlat =
    (design : Design) (flat : Flat) → AreFaultless design.models → IsFlatOf design flat
    → (line : ℕ) (word : Name) → IsTwoClocks design line word ↔ IsFlatTwoClocks flat line word

-- If all latches have one clock, a design has a fault of a clock net that is read exactly if its
-- flat netlist has it, at the same line and word.
abbrev pub ClockReadIsFlat : Type 0
ClockReadIsFlat =
    (design : Design) (flat : Flat) → AreFaultless design.models → HasOneClock design
    → IsFlatOf design flat → (line : ℕ) (word : Name) → IsClockRead design line word
    ↔ IsFlatClockRead flat line word

-- the clock faults of a design are those of its flat netlist
abbrev pub ClockFaultsAreFlat : Type 0
ClockFaultsAreFlat =
    (design : Design) (flat : Flat) → AreFaultless design.models → IsFlatOf design flat
    → (fault : Fault) → IsClockFault design fault ↔ IsFlatClockFault flat fault

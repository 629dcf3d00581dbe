-- What a design without a fault has, in terms of the meaning of designs.
use Rattle.std.specs.Prelude.{List, bytes_eq, Contains}
use Rattle.std.specs.List.{IsDistinct}
use Rattle.netlist_core.specs.declared.model.Model.{Model}
use Rattle.netlist_core.specs.Names.{port_names}
use Rattle.netlist_core.specs.declared.model.Design.{Design}
use Rattle.netlist_meaning.specs.Roots.{NamesFormalsOnce}
use Rattle.netlist_meaning.specs.Laws.{IsNotRecursive}
use Rattle.netlist_rules.specs.Clocks.{IsWired, HasNoClockFault}
use Rattle.netlist_rules.specs.ModelFaults.{AreFaultless}

-- in a design without a fault no model stands inside a place of itself
abbrev pub FaultlessAreNotRecursive : Type 0
FaultlessAreNotRecursive = (design : Design) → AreFaultless design.models → IsNotRecursive design

-- in a design without a fault no line names a formal with two actuals
abbrev pub FaultlessNameFormalsOnce : Type 0
FaultlessNameFormalsOnce = (design : Design) → AreFaultless design.models → NamesFormalsOnce design

-- no name stands twice in a model's `.inputs`, `.clock` or `.outputs`
pub record HasApartPorts (model : Model) : Type 0 where
  pub ins : IsDistinct bytes_eq (port_names model.ins)
  pub clocks : IsDistinct bytes_eq (port_names model.clocks)
  pub outs : IsDistinct bytes_eq (port_names model.outs)

-- In models without a fault no name stands twice in a list of ports of a model.
abbrev pub FaultlessHaveDistinctPorts : Type 0
FaultlessHaveDistinctPorts =
    (models : List Model) → AreFaultless models → (model : Model) → Contains models model
    → HasApartPorts model

-- a design without a fault, and without a fault of clocks, is wired
abbrev pub FaultlessAreWired : Type 0
FaultlessAreWired =
    (design : Design) → AreFaultless design.models → HasNoClockFault design → IsWired design

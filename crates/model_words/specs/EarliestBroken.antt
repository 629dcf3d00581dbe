-- The first fault of models by one rule.
use Rattle.std.specs.Prelude.{List, Option, option_map, flat_map}
use Rattle.netlist_core.specs.declared.model.Model.{Model}
use Rattle.netlist_rules.specs.declared.fault.Fault.{Fault}
use Rattle.netlist_rules.specs.declared.fault.FaultKind.{FaultKind}
use Rattle.netlist_rules.specs.ModelFaults.{earliest, fault_of_port, words_at_fault}

-- the fault at the earliest word at which the models break this rule
abbrev pub earliest_broken : FaultKind → List Model → Option Fault
earliest_broken kind models =
    option_map (fault_of_port kind) (earliest (flat_map (words_at_fault kind models) models))

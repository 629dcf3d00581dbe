use Rattle.std.proofs.Common.{◌≡◌, flat_map, take, option_map}
use Rattle.netlist_rules.specs.declared.fault.FaultKind.TheVariants.{PinMissing}
use Rattle.netlist_rules.specs.ModelFaults.{earliest, fault_of_port, missing_pin}
use Rattle.pin_faults.specs.SubcktLines.{lines_now}
use Rattle.pin_faults.proofs.missing.pin_missing.Given as goal

abbrev pub invariant-loop-line : goal.invariant-loop-line
invariant-loop-line l = l.first ≡ option_map (fault_of_port PinMissing) (earliest (flat_map (missing_pin l.named) (lines_now (take l.line-index l.line-items))))

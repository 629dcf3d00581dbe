use Rattle.std.proofs.Common.{take}
use Rattle.netlist_flatten.specs.Inputs.{AreInputs}
use Rattle.netlist_flatten.proofs.ports.inputs_of.Given as goal

abbrev pub invariant-loop-port : goal.invariant-loop-port
invariant-loop-port l = AreInputs l.numbers (take l.port-index l.ports) l.inputs.items

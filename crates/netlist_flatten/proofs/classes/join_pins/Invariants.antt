use Rattle.netlist_flatten.proofs.Joining.{JoinedBefore}
use Rattle.netlist_flatten.proofs.classes.join_pins.Given as goal

abbrev pub invariant-loop-pin : goal.invariant-loop-pin
invariant-loop-pin l = JoinedBefore l.numbers l.at l.line.pins l.pin-index l.own

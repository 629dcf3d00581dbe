use Rattle.std.proofs.Common.{◌≡◌, map}
use Rattle.netlist_meaning.specs.FlatOf.{class_of_net}
use Rattle.netlist_flatten.specs.Numbered.{nets_before}
use Rattle.netlist_flatten.proofs.classes.classes_of.Given as goal

abbrev pub invariant-loop-at : goal.invariant-loop-at
invariant-loop-at l = l.classes.items ≡ map (class_of_net l.numbers) (nets_before l.numbers l.at)

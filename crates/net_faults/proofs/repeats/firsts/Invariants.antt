use Rattle.std.proofs.Common.{drop, ◌++◌}
use Rattle.netlist_rules.specs.Drivers.{firsts, firsts_after}
use Rattle.net_faults.specs.Numbering.{AreNumbered, numbered_ports}
use Rattle.net_faults.proofs.Passing.{IsLeft}
use Rattle.net_faults.proofs.repeats.firsts.Given as goal

abbrev pub invariant-loop-word : goal.invariant-loop-word
invariant-loop-word l = record {
  left : IsLeft l.names l.repeats (drop l.word-index l.words) (λ before left. numbered_ports l.found.items ++ firsts_after before left) (firsts (numbered_ports l.words));
  numbers : AreNumbered l.names l.found.items;
}

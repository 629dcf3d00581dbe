use Rattle.std.proofs.Common.{◌≡◌, take}
use Rattle.netlist_core.specs.Names.{port_names}
use Rattle.netlist_meaning.specs.InOrder.{first_names}
use Rattle.design_walks.specs.Words.{as_ports, bytes_of}
use Rattle.design_walks.proofs.names.first_names.Given as goal

abbrev pub invariant-loop-word : goal.invariant-loop-word
invariant-loop-word l = record {
  names : bytes_of l.names.keys ≡ first_names (port_names (as_ports (take l.word-index l.words)));
}

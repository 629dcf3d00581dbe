use Rattle.std.proofs.Common.{◌≡◌}
use Rattle.std.specs.Prelude.{filter_map}
use Rattle.pattern_reading.specs.PortTable.{input_of, output_of, net_of}
use Rattle.port_table.specs.Lent.{forms_in}
use Rattle.port_table.proofs.ports.Lists.push_all.Given as goal

abbrev pub invariant-loop-line : goal.invariant-loop-line
invariant-loop-line l = record {
  ins_so_far : l.self.ins.items ≡ filter_map input_of (forms_in l.yielded);
  outs_so_far : l.self.outs.items ≡ filter_map output_of (forms_in l.yielded);
  nets_so_far : l.self.nets.items ≡ filter_map net_of (forms_in l.yielded);
}

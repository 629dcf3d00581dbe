use Rattle.std.proofs.Common.{◌≡◌, take}
use Rattle.netlist_meaning.specs.Flat.{names_of_ports}
use Rattle.pattern_reading.specs.Ports.{cells_of, names_of}
use Rattle.plan_ports.specs.Tables.{drawn_input_cells}
use Rattle.plan_ports.proofs.table.input_lines.Given as goal

abbrev pub invariant-loop-i : goal.invariant-loop-i
invariant-loop-i l = record {
  cells : cells_of l.lines.items ≡ take l.i (drawn_input_cells l.plan);
  names : names_of l.lines.items ≡ take l.i (names_of_ports l.flat l.flat.ins);
}

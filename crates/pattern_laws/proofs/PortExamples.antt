-- What the examples of port tables claim, by computing.
use Rattle.std.proofs.Common.{◌≡◌, List, [], ◌∷◌, rules}
use Rattle.std.specs.List.{AllByRecursion}
use Rattle.pattern_reading.specs.PortTable.{forms_of, port_faults, ports_of}
use Rattle.pattern_laws.specs.Examples.{PortsExample, ReadsAsSaidPorts, HasSaidPortFault, ports_examples, bad_line_examples, bad_order_examples, outside_port_examples, twice_examples}

abbrev AreTables : List PortsExample → Type 0
AreTables [] = Unit {0}
AreTables (e ∷ es) = (port_faults e.text e.width e.height ≡ []) × (e.ports ≡ ports_of (forms_of e.text)) × AreTables es

tables_as_said : (es : List PortsExample) → AreTables es → AllByRecursion ReadsAsSaidPorts es
tables_as_said [] h = tt
tables_as_said (e ∷ es) h = (record { no_fault = h.0; ports_is = h.1 }, tables_as_said es h.2)

pub ports_as_said : AllByRecursion ReadsAsSaidPorts ports_examples
ports_as_said = tables_as_said ports_examples (search rules)

pub bad_lines_as_said : AllByRecursion HasSaidPortFault bad_line_examples
bad_lines_as_said = search rules

pub bad_orders_as_said : AllByRecursion HasSaidPortFault bad_order_examples
bad_orders_as_said = search rules

pub outside_ports_as_said : AllByRecursion HasSaidPortFault outside_port_examples
outside_ports_as_said = search rules

pub twice_as_said : AllByRecursion HasSaidPortFault twice_examples
twice_as_said = search rules

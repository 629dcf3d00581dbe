-- The lines of a table, from the code's values to those of the definitions.
use Rattle.std.specs.Prelude.{List, Option, option_map, filter_map}
use Rattle.std.specs.Option.{option_to_list}
use Rattle.pattern_reading.specs.Numbers.{◌>>=◌}
use Rattle.pattern_reading.specs.PortLines as lines
use Rattle.pattern_reading.specs.PortTable.{PortFaultAt}
use Rattle.port_table.specs.declared.table.TableLine.{TableLine}
use Rattle.port_table.specs.declared.faults.PortFault.{PortFault}
use Rattle.port_table.specs.declared.forms.PortForm.{PortForm}
use Rattle.port_table.specs.declared.forms.PortForm.TheVariants.{Version, In, Out, Net}

abbrev pub form_of : PortForm → lines.PortForm
form_of (Version period latency contexts) = lines.Version period latency contexts
form_of (In port) = lines.In port
form_of (Out port) = lines.Out port
form_of (Net net) = lines.Net net

abbrev pub table_line_of : TableLine → lines.TableLine
table_line_of line = record { number = line.number; form = option_map form_of line.form }

-- the forms of lines that have one
abbrev pub forms_in : List TableLine → List lines.PortForm
forms_in ls = filter_map (λ line. option_map form_of line.form) ls

-- what a line of a kind says, if it has a form
abbrev pub said_by : {A : Type 0} → (lines.PortForm → Option A) → Option PortForm → List A
said_by read form = option_to_list (option_map form_of form >>= read)

abbrev pub port_fault_of : PortFault → PortFaultAt
port_fault_of fault = record { kind = fault.kind; line = fault.line }

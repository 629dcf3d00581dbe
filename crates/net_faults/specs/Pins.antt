-- The pins of subckt lines, by what their formals are.
use Rattle.std.specs.Prelude.{Bool, Option}
use Rattle.netlist_core.specs.declared.model.Model.{Model}
use Rattle.netlist_core.specs.declared.model.Pin.{Pin}
use Rattle.netlist_rules.specs.Drivers.{is_input_pin, is_output_pin, is_unknown_pin}
use Rattle.net_faults.specs.declared.pins.PinKind.{PinKind}
use Rattle.net_faults.specs.declared.pins.PinKind.TheVariants.{Input, Output, Unknown}

-- the pins of each kind
abbrev pub is_pin_of : PinKind → Option Model → Pin → Bool
is_pin_of Input = is_input_pin
is_pin_of Output = is_output_pin
is_pin_of Unknown = is_unknown_pin

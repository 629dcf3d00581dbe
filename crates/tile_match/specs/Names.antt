-- Names of ports that cannot stand in a netlist's text.
use Rattle.std.specs.Prelude.{ℕ, Bool, ◌-◌, ◌==◌, nat_le, ◌&&◌, ◌||◌, List, length, get_or}
use Rattle.std.specs.List.{list_any}
use Rattle.std.specs.Str.{byte, bytes_eq}
use Rattle.pattern_reading.specs.declared.ports.PortLine.{PortLine}
use Rattle.pattern_reading.specs.declared.ports.Ports.{Ports}

-- a byte that no word of a netlist's text has: a blank, the end of a line, or `#`, which begins a
-- comment
abbrev pub is_break : ℕ → Bool
is_break b = (nat_le 9 b && nat_le b 13) || b == 32 || b == byte "#"

-- A name that is no word: it is empty, has such a byte, or ends with `\`, which would join the next
-- line to it.
abbrev pub is_bad_name : List ℕ → Bool
is_bad_name name =
    length name == 0 || list_any is_break name || get_or name (length name - 1) 0 == byte "\\"

abbrev pub is_bad_port : PortLine → Bool
is_bad_port port = is_bad_name port.name

-- some port has this name
abbrev pub is_port_name : List PortLine → List ℕ → Bool
is_port_name ports name = list_any (λ port. bytes_eq port.name name) ports

-- an input has the name of an output
abbrev pub shares_name : List PortLine → PortLine → Bool
shares_name outs port = is_port_name outs port.name

-- a name is no word, or an input and an output share it
abbrev pub has_bad_name : Ports → Bool
has_bad_name ports =
    list_any is_bad_port ports.ins || list_any is_bad_port ports.outs
    || list_any (shares_name ports.outs) ports.ins

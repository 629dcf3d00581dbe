-- Texts, and how each of them reads.
use Rattle.std.specs.Prelude.{ℕ, ◌==◌, if◌then◌else◌, List, [], ◌∷◌, ◌++◌, map, codes}
use Rattle.std.specs.Str.{byte}
use Rattle.ww_rule.specs.declared.pattern.State.{State}
use Rattle.ww_rule.specs.declared.pattern.State.TheVariants.{Empty, Head, Tail, Conductor}
use Rattle.ww_rule.specs.Grid.{Grid}
use Rattle.pattern_reading.specs.declared.faults.RleFaultKind.{RleFaultKind}
use Rattle.pattern_reading.specs.declared.faults.RleFaultKind.TheVariants as rle
use Rattle.pattern_reading.specs.declared.faults.PortFaultKind.{PortFaultKind}
use Rattle.pattern_reading.specs.declared.faults.PortFaultKind.TheVariants as port
use Rattle.pattern_reading.specs.declared.ports.PortLine.{PortLine}
use Rattle.pattern_reading.specs.declared.ports.NetLine.{NetLine}
use Rattle.pattern_reading.specs.declared.ports.Ports.{Ports}
use Rattle.pattern_reading.specs.Pattern.{ReadsAsPattern, HasRleFault}
use Rattle.pattern_reading.specs.PortTable.{ReadsAsPorts, HasPortFault}
use Rattle.pattern_writing.specs.Samples.{bare_text}
use Rattle.pattern_writing.specs.SamplePorts.{port_line_at, net_line_at, bare_ports}

-- a text that reads as a pattern
pub record PatternExample : Type 0 where
  pub text : List ℕ
  pub grid : Grid

-- a text that has a fault on a line
pub record RleFaultExample : Type 0 where
  pub text : List ℕ
  pub kind : RleFaultKind
  pub line : ℕ

-- a text that reads as a port table, in a box of this width and height
pub record PortsExample : Type 0 where
  pub text : List ℕ
  pub width : ℕ
  pub height : ℕ
  pub ports : Ports

-- a text whose port table has a fault on a line
pub record PortFaultExample : Type 0 where
  pub text : List ℕ
  pub width : ℕ
  pub height : ℕ
  pub kind : PortFaultKind
  pub line : ℕ

-- what the examples claim
abbrev pub ReadsAsSaid : PatternExample → Type 0
ReadsAsSaid example = ReadsAsPattern example.text example.grid

abbrev pub HasSaidFault : RleFaultExample → Type 0
HasSaidFault example = HasRleFault example.text example.kind example.line

abbrev pub ReadsAsSaidPorts : PortsExample → Type 0
ReadsAsSaidPorts example = ReadsAsPorts example.text example.width example.height example.ports

abbrev pub HasSaidPortFault : PortFaultExample → Type 0
HasSaidPortFault example =
    HasPortFault example.text example.width example.height example.kind example.line

-- rows of cells as letters: `A` for a head, `B` for a tail, `C` for a conductor, and anything else
-- for an empty cell
abbrev pub state_drawn : ℕ → State
state_drawn letter =
    if letter == byte "A" then Head else if letter == byte "B" then Tail else if letter == byte "C"
    then Conductor else Empty

abbrev pub rows_drawn : List (List ℕ) → List (List State)
rows_drawn rows = map (λ row. map state_drawn row) rows

abbrev pub spells : List ℕ → ℕ → ℕ → List (List ℕ) → PatternExample
spells text width height rows =
    record { text = text; grid = record { width = width; height = height; rows = rows_drawn rows } }

abbrev pub has : List ℕ → RleFaultKind → ℕ → RleFaultExample
has text kind line = record { text = text; kind = kind; line = line }

-- a text with a header of a box of 3 by 1 cells, and these items
abbrev pub with_items : List ℕ → List ℕ
with_items items = codes "x = 3, y = 1, rule = WireWorld\n" ++ items

-- a wire of three cells, and its port table of period p
abbrev pub wire_cells : List ℕ
wire_cells = with_items (codes "3C!\n")

abbrev pub wire_version : List ℕ → List ℕ
wire_version p = codes "#C BLIFWW 1 P " ++ p ++ codes " L 2\n"

abbrev pub wire_in : List ℕ
wire_in = codes "#C BLIFWW IN 0 0 a\n"

abbrev pub wire_out : List ℕ
wire_out = codes "#C BLIFWW OUT 2 0 y\n"

abbrev pub wire_text : List ℕ → List ℕ
wire_text p = wire_version p ++ wire_in ++ wire_out ++ wire_cells

abbrev pub wire_ports : ℕ → Ports
wire_ports p =
    record {
      p = p;
      l = 2;
      c = 1;
      ins = port_line_at 0 0 (codes "a") ∷ [];
      outs = port_line_at 2 0 (codes "y") ∷ [];
      nets = [];
    }

abbrev pub three : List (List ℕ)
three = codes "CCC" ∷ []

-- The headers here are without fault: the rule in any case of its letters, any blanks, leading
-- zeros, lines that are skipped, both line ends, and the greatest number.
abbrev pub header_examples : List PatternExample
header_examples =
    spells (wire_text (codes "4")) 3 1 three
    ∷ spells bare_text 0 0 []
    ∷ spells (codes "#CXRLE Pos=0,0\nx = 3, y = 1, rule = wireworld\n3C$!") 3 1 three
    ∷ spells (codes "x=3,y=1,rule=WIREWORLD\n3C!") 3 1 three
    ∷ spells (codes "# one\n\n \t\n#two\r\n\t x\t=  003 ,y = 1,\trule =\tWireWorld \t\r\n3C!") 3 1 three
    ∷ spells (codes "x = 18446744073709551615, y = 0, rule = WireWorld\n!") 18446744073709551615 0 []
    ∷ spells (codes "x = 0000000000000000000000000000003, y = 1, rule = WireWorld\n3C!") 3 1 three
    ∷ []

abbrev pub header_fault_examples : List RleFaultExample
header_fault_examples =
    -- no line is the header
    has [] rle.NoHeader 1
    ∷ has (codes "#x = 3, y = 1, rule = WireWorld\n \n") rle.NoHeader 2
    ∷ has (codes "#C\n\t") rle.NoHeader 2
    -- it does not begin with `x`
    ∷ has (codes "#C\n3C!") rle.NoHeader 2
    ∷ has (codes "X = 3, y = 1, rule = WireWorld\n3C!") rle.NoHeader 1
    ∷ has (codes " #C\nx = 3, y = 1, rule = WireWorld\n3C!") rle.NoHeader 1
    ∷ has (codes "\r\rx = 3, y = 1, rule = WireWorld\n3C!") rle.NoHeader 1
    -- it has another form, or a number is too great
    ∷ has (codes "\nx = 3\n3C!") rle.BadHeader 2
    ∷ has (codes "x = 3, y = 1, rule =\n3C!") rle.BadHeader 1
    ∷ has (codes "x = 3, y = 1, rule =\t \n3C!") rle.BadHeader 1
    ∷ has (codes "x = 3, y = 1, rules = WireWorld\n3C!") rle.BadHeader 1
    ∷ has (codes "x = 3, y = 1,\n3C!") rle.BadHeader 1
    ∷ has (codes "x = 3, y = 1 rule = WireWorld\n3C!") rle.BadHeader 1
    ∷ has (codes "x = , y = 1, rule = WireWorld\n3C!") rle.BadHeader 1
    ∷ has (codes "x = 3 3, y = 1, rule = WireWorld\n3C!") rle.BadHeader 1
    ∷ has (codes "y = 1, x = 3, rule = WireWorld\n3C!") rle.NoHeader 1
    ∷ has (codes "x = 18446744073709551616, y = 0, rule = WireWorld\n!") rle.BadHeader 1
    -- it names no rule, or another
    ∷ has (codes "x = 3, y = 1\n3C!") rle.OtherRule 1
    ∷ has (codes "#C\n\nx = 3, y = 1, rule = B3/S23\n3C!") rle.OtherRule 3
    ∷ has (codes "x = 3, y = 1, rule = Wire World\n3C!") rle.OtherRule 1
    ∷ has (codes "x = 3, y = 1, rule = WireWorld, z = 1\n3C!") rle.OtherRule 1
    ∷ has (codes "x = 3, y = 1, rule = WireWorld\r") rle.OtherRule 1
    ∷ has (codes "x = 3, y = 1, rule = WireWorld\r\r\n3C!") rle.OtherRule 1
    -- what is at fault in the header comes before what is at fault in the items
    ∷ has (codes "x = 3, y = 1, rule = Life\n0C4C") rle.OtherRule 1
    ∷ []

-- The items here are without fault.
abbrev pub item_examples : List PatternExample
item_examples =
    spells (codes "x = 3, y = 2, rule = WireWorld\n3A$.C!") 3 2 (codes "AAA" ∷ codes ".C." ∷ [])
    ∷ spells (codes "x = 3, y = 2, rule = WireWorld\n2A$.C!") 3 2 (codes "AA." ∷ codes ".C." ∷ [])
    ∷ spells (codes "x = 4, y = 3, rule = WireWorld\n.ABC$$bo!") 4 3
    (codes ".ABC" ∷ codes "...." ∷ codes ".A.." ∷ [])
    -- leading zeros, blanks and line ends between items, lines with `#`, and what follows the `!`
    ∷ spells (with_items (codes "003C!")) 3 1 three
    ∷ spells (with_items (codes "0000000000000000000000000000003C!")) 3 1 three
    ∷ spells (with_items (codes "\t2C \r\n\r\n# 4C!\nC\n!0C?\n5C")) 3 1 three
    -- empty cells and row ends may pass the box, and so may their sums pass the greatest number
    ∷ spells (with_items (codes "C99.$7$9b!")) 3 1 (codes "C.." ∷ [])
    ∷ spells (with_items
    (codes "C18446744073709551615.18446744073709551615.18446744073709551615$18446744073709551615$.!")) 3 1 (codes "C.." ∷ [])
    ∷ spells (with_items (codes "!")) 3 1 (codes "..." ∷ [])
    ∷ []

abbrev pub item_fault_examples : List RleFaultExample
item_fault_examples =
    -- bytes that begin no item
    has (with_items (codes "3D!")) rle.BadItem 2
    ∷ has (with_items (codes "3C#\n!")) rle.BadItem 2
    ∷ has (with_items (codes "\n #C\n!")) rle.BadItem 3
    ∷ has (with_items (codes "3C\r!")) rle.BadItem 2
    ∷ has (with_items (codes "3a!")) rle.BadItem 2
    ∷ has (with_items (codes "3c!")) rle.BadItem 2
    ∷ has (with_items (0 ∷ codes "3C!")) rle.BadItem 2
    ∷ has (with_items (11 ∷ codes "3C!")) rle.BadItem 2
    ∷ has (with_items (12 ∷ codes "3C!")) rle.BadItem 2
    ∷ has (with_items (200 ∷ codes "3C!")) rle.BadItem 2
    -- a second header is no item
    ∷ has (with_items (with_items (codes "3C!"))) rle.BadItem 2
    -- counts that are 0 or too great
    ∷ has (codes "#CXRLE Pos=0,0\nx = 3, y = 1, rule = wireworld\n0C!") rle.BadItem 3
    ∷ has (with_items (codes "3C0.!")) rle.BadItem 2
    ∷ has (with_items (codes "3C0$!")) rle.BadItem 2
    ∷ has (with_items (codes "3C0!")) rle.BadItem 2
    ∷ has (with_items (codes "C18446744073709551616.!")) rle.BadItem 2
    -- counts without a tag directly after them
    ∷ has (with_items (codes "3 C!")) rle.BadItem 2
    ∷ has (with_items (codes "2\tC!")) rle.BadItem 2
    ∷ has (with_items (codes "3\nC!")) rle.BadItem 2
    ∷ has (with_items (codes "3\r\nC!")) rle.BadItem 2
    ∷ has (with_items (codes "3\n#C\nC!")) rle.BadItem 2
    ∷ has (with_items (codes "2C\n1!")) rle.BadItem 3
    ∷ has (with_items (codes "3C3\r")) rle.BadItem 2
    ∷ has (with_items (codes "3C3\n")) rle.BadItem 2
    -- cells outside the box
    ∷ has (with_items (codes "4C!")) rle.CellOutside 2
    ∷ has (with_items (codes "3.\nA!")) rle.CellOutside 3
    ∷ has (with_items (codes "$B!")) rle.CellOutside 2
    ∷ has (with_items (codes "4C\n!")) rle.CellOutside 2
    ∷ has (codes "x = 2147483648, y = 0, rule = WireWorld\n2147483648C!") rle.CellOutside 2
    ∷ has (with_items (codes "18446744073709551615$18446744073709551615$C!")) rle.CellOutside 2
    -- the earlier of two comes first
    ∷ has (with_items (codes "4C\n0C!")) rle.CellOutside 2
    ∷ has (with_items (codes "0C\n4C!")) rle.BadItem 2
    ∷ has (with_items (codes "0C")) rle.BadItem 2
    ∷ []

-- texts that end without `!`; a count that the end of the text cuts off is no item, whatever its
-- number
abbrev pub end_fault_examples : List RleFaultExample
end_fault_examples =
    has (codes "#CXRLE Pos=0,0\nx = 3, y = 1, rule = wireworld\n3C$") rle.NoEnd 3
    ∷ has (codes "x = 3, y = 1, rule = WireWorld") rle.NoEnd 1
    ∷ has (with_items []) rle.NoEnd 1
    ∷ has (with_items (codes "3C\n\n")) rle.NoEnd 3
    ∷ has (with_items (codes "3C\n#!")) rle.NoEnd 3
    ∷ has (with_items (codes "3C3")) rle.NoEnd 2
    ∷ has (with_items (codes "3C\n0")) rle.NoEnd 3
    ∷ has (with_items (codes "3C18446744073709551616")) rle.NoEnd 2
    ∷ []

-- texts whose box has more cells than a reader takes, and texts with large numbers in the header
-- but without such a box
abbrev pub too_large_texts : List (List ℕ)
too_large_texts =
    codes "x = 16385, y = 16384, rule = WireWorld\n!"
    ∷ codes "x = 18446744073709551615, y = 18446744073709551615, rule = WireWorld\n0C" ∷ []

abbrev pub large_texts : List (List ℕ)
large_texts =
    codes "x = 16384, y = 16384, rule = WireWorld\n!"
    ∷ codes "x = 18446744073709551615, y = 0, rule = WireWorld\n0C"
    ∷ codes "x = 16385, y = 16384\n!" ∷ []

-- the version line with period 4 and latency 2
abbrev pub version_four : List ℕ
version_four = wire_version (codes "4")

-- a table of the version line with period 4 and these lines, in the box of the wire
abbrev pub reads_as_ports : List ℕ → List PortLine → List PortLine → List NetLine → PortsExample
reads_as_ports lines ins outs nets = record {
  text = version_four ++ lines;
  width = 3;
  height = 1;
  ports = record { p = 4; l = 2; c = 1; ins = ins; outs = outs; nets = nets };
}

-- a version line alone, with a period, latency 2 and a number of contexts
abbrev pub counted_version : List ℕ → List ℕ → List ℕ
counted_version p c = codes "#C BLIFWW 1 P " ++ p ++ codes " L 2 C " ++ c ++ codes "\n"

abbrev pub reads_as_contexts : List ℕ → List ℕ → ℕ → ℕ → PortsExample
reads_as_contexts p_word c_word p c = record {
  text = counted_version p_word c_word;
  width = 0;
  height = 0;
  ports = record { p = p; l = 2; c = c; ins = []; outs = []; nets = [] };
}

-- the version line of version 2 with period 4, latency 2 and one context
abbrev pub version_two : List ℕ
version_two = codes "#C BLIFWW 2 P 4 L 2 C 1\n"

-- a table of the version line of version 2 and these lines
abbrev pub reads_as_escapes : List ℕ → List PortLine → List PortLine → List NetLine → PortsExample
reads_as_escapes lines ins outs nets = record {
  text = version_two ++ lines;
  width = 3;
  height = 1;
  ports = record { p = 4; l = 2; c = 1; ins = ins; outs = outs; nets = nets };
}

-- The tables here are without fault.
abbrev pub ports_examples : List PortsExample
ports_examples =
    record { text = wire_text (codes "4"); width = 3; height = 1; ports = wire_ports 4 }
    ∷ record { text = bare_text; width = 0; height = 0; ports = bare_ports }
    -- no table
    ∷ record { text = wire_cells; width = 3; height = 1; ports = bare_ports }
    ∷ record { text = []; width = 0; height = 0; ports = bare_ports }
    -- other comments, and lines after the header, are no lines of the table
    ∷ record {
      text = codes "#C BLIFWW\n#C BLIFWWW 2\n #C BLIFWW 2\n";
      width = 0;
      height = 0;
      ports = bare_ports;
    }
    ∷ record { text = wire_cells ++ wire_in; width = 3; height = 1; ports = bare_ports }
    -- a text without a header
    ∷ reads_as_ports (codes "\n#\n" ++ wire_in) (port_line_at 0 0 (codes "a") ∷ []) [] []
    -- the first line that is neither a comment nor blank ends the table, even if it is no header
    ∷ reads_as_ports (wire_in ++ codes "x = 3\n" ++ wire_out)
    (port_line_at 0 0 (codes "a") ∷ []) [] []
    ∷ record {
      text = codes "3C!\n#C BLIFWW 1 P 0 L 0\n";
      width = 3;
      height = 1;
      ports = bare_ports;
    }
    -- names with a tab and with a carriage return, which a line end alone takes away
    ∷ reads_as_ports
    (codes "#C BLIFWW IN 0 0 a\tb\n#C BLIFWW IN 1 0 a\rb\r\n#C BLIFWW IN 2 0 a\r")
    (port_line_at 0 0 (codes "a\tb") ∷ port_line_at 1 0 (codes "a\rb")
    ∷ port_line_at 2 0 (codes "a\r") ∷ [])
    []
    []
    -- one context in any period, and more if each has 32 generations of it
    ∷ reads_as_contexts (codes "4") (codes "1") 4 1
    ∷ reads_as_contexts (codes "4") (codes "001") 4 1
    ∷ reads_as_contexts (codes "64") (codes "2") 64 2
    ∷ reads_as_contexts (codes "18446744073709551615")
    (codes "576460752303423487") 18446744073709551615 576460752303423487
    -- version 2: escapes with digits of both cases, which may be of a byte that needs none, and
    -- bytes as they stand
    ∷ reads_as_escapes
    (codes "#C BLIFWW IN 0 0 %61\n#C BLIFWW IN 1 0 a%25\n#C BLIFWW IN 2 0 %2561\n#C BLIFWW OUT 2 0 %c3%A9\n#C BLIFWW NET 1 0 9 a%20b%0D 0.1\n" ++ wire_cells)
    (port_line_at 0 0 (codes "a") ∷ port_line_at 1 0 (codes "a%") ∷ port_line_at 2 0 (codes "%61")
    ∷ [])
    (port_line_at 2 0 (195 ∷ 169 ∷ []) ∷ [])
    (net_line_at 1 0 9 (codes "a b\r") (codes "0.1") ∷ [])
    ∷ reads_as_escapes (codes "#C BLIFWW IN 0 0 a\tb\n")
    (port_line_at 0 0 (codes "a\tb") ∷ []) [] []
    ∷ reads_as_escapes
    (codes "#C BLIFWW IN 0 0 %2541\n#C BLIFWW IN 1 0 %00%FF\n#C BLIFWW OUT 2 0 %0D%20\n"
    ++ wire_cells)
    (port_line_at 0 0 (codes "%41") ∷ port_line_at 1 0 (0 ∷ 255 ∷ []) ∷ [])
    (port_line_at 2 0 (codes "\r ") ∷ [])
    []
    ∷ record {
      text = codes "#C BLIFWW 2 P 64 L 0 C 2\n";
      width = 0;
      height = 0;
      ports = record bare_ports { p = 64; c = 2 };
    }
    -- version 1: names as they stand
    ∷ reads_as_ports
    (codes "#C BLIFWW IN 0 0 a\n#C BLIFWW IN 1 0 %61\n#C BLIFWW OUT 2 0 %4\n#C BLIFWW NET 1 0 9 %0A -\n" ++ wire_cells)
    (port_line_at 0 0 (codes "a") ∷ port_line_at 1 0 (codes "%61") ∷ [])
    (port_line_at 2 0 (codes "%4") ∷ [])
    (net_line_at 1 0 9 (codes "%0A") (codes "-") ∷ [])
    -- paths of one number and of zeros
    ∷ reads_as_ports
    (codes "#C BLIFWW NET 1 0 9 a 0\n#C BLIFWW NET 1 0 9 a 0.0\n" ++ wire_cells)
    []
    []
    (net_line_at 1 0 9 (codes "a") (codes "0") ∷ net_line_at 1 0 9 (codes "a") (codes "0.0") ∷ [])
    -- both line ends, and leading zeros
    ∷ reads_as_ports (codes "#C BLIFWW IN 002 0 a\r\n#C BLIFWW OUT 0 000 y\r\n" ++ wire_cells)
    (port_line_at 2 0 (codes "a") ∷ []) (port_line_at 0 0 (codes "y") ∷ []) []
    -- one name may stand in two kinds of lines, and a net's name under two paths
    ∷ reads_as_ports
    (codes "#C BLIFWW NET 1 0 9 a -\n#C BLIFWW OUT 0 0 a\n#C BLIFWW IN 2 0 a\n#C BLIFWW NET 1 0 18446744073709551615 a 0.12.3\n" ++ wire_cells)
    (port_line_at 2 0 (codes "a") ∷ [])
    (port_line_at 0 0 (codes "a") ∷ [])
    (net_line_at 1 0 9 (codes "a") (codes "-")
    ∷ net_line_at 1 0 18446744073709551615 (codes "a") (codes "0.12.3") ∷ [])
    ∷ []

-- a text whose table has a fault, in the box of the wire
abbrev pub has_port_fault : List ℕ → PortFaultKind → ℕ → PortFaultExample
has_port_fault text kind line =
    record { text = text; width = 3; height = 1; kind = kind; line = line }

-- a version line and one more line, which has none of the four forms
abbrev pub is_no_port_line : List ℕ → PortFaultExample
is_no_port_line entry =
    has_port_fault (version_four ++ codes "#C BLIFWW " ++ entry ++ codes "\n"
    ++ wire_cells) port.BadLine 2

-- a version line of version 2 and one more line, which has none of the four forms
abbrev pub is_no_escaped_line : List ℕ → PortFaultExample
is_no_escaped_line entry =
    has_port_fault (version_two ++ codes "#C BLIFWW " ++ entry ++ codes "\n"
    ++ wire_cells) port.BadLine 2

abbrev pub bad_line_examples : List PortFaultExample
bad_line_examples =
    -- the period is 0
    has_port_fault (wire_text (codes "0")) port.BadLine 1
    ∷ has_port_fault (wire_text (codes "18446744073709551616")) port.BadLine 1
    ∷ has_port_fault (codes "#C BLIFWW 1 P 4 L 18446744073709551616\n" ++ wire_cells) port.BadLine 1
    ∷ has_port_fault (version_four ++ codes "#C BLIFWW 1 P 0 L 0\n" ++ wire_cells) port.BadLine 2
    -- a blank at the end, and small letters
    ∷ has_port_fault (codes "#C BLIFWW 1 P 4 L 2 \n" ++ wire_cells) port.BadLine 1
    ∷ has_port_fault (codes "#C BLIFWW 1 p 4 l 2\n" ++ wire_cells) port.BadLine 1
    -- no contexts, and more than the period has room for
    ∷ has_port_fault (counted_version (codes "32") (codes "0") ++ wire_cells) port.BadLine 1
    ∷ has_port_fault (counted_version (codes "32") (codes "2") ++ wire_cells) port.BadLine 1
    ∷ has_port_fault (counted_version (codes "63") (codes "2") ++ wire_cells) port.BadLine 1
    ∷ has_port_fault (counted_version (codes "18446744073709551615") (codes "576460752303423488")
    ++ wire_cells) port.BadLine 1
    ∷ has_port_fault (counted_version (codes "32") (codes "18446744073709551616")
    ++ wire_cells) port.BadLine 1
    ∷ has_port_fault (codes "#C BLIFWW 1 P 64 L 2 C\n" ++ wire_cells) port.BadLine 1
    ∷ has_port_fault (codes "#C BLIFWW 1 P 64 L 2 c 2\n" ++ wire_cells) port.BadLine 1
    ∷ has_port_fault (codes "#C BLIFWW 1 P 64 L 2 C 2 \n" ++ wire_cells) port.BadLine 1
    -- other versions
    ∷ has_port_fault (codes "#C BLIFWW 3 P 4 L 2 C 1\n" ++ wire_cells) port.BadLine 1
    ∷ has_port_fault (codes "#C BLIFWW 01 P 4 L 2\n" ++ wire_cells) port.BadLine 1
    ∷ has_port_fault (codes "#C BLIFWW 02 P 4 L 2 C 1\n" ++ wire_cells) port.BadLine 1
    -- version 2 without the number of contexts, or with none
    ∷ has_port_fault (codes "#C BLIFWW 2 P 4 L 2\n" ++ wire_cells) port.BadLine 1
    ∷ has_port_fault (codes "#C BLIFWW 2 P 4 L 2 C 0\n" ++ wire_cells) port.BadLine 1
    ∷ has_port_fault (codes "#C BLIFWW 2 P 63 L 2 C 2\n" ++ wire_cells) port.BadLine 1
    ∷ has_port_fault (version_two ++ codes "#C BLIFWW 3 P 4 L 2 C 1\n" ++ wire_cells) port.BadLine 2
    -- a percent sign that begins no escape, and a line feed's escape
    ∷ is_no_escaped_line (codes "IN 0 0 %4")
    ∷ is_no_escaped_line (codes "IN 0 0 %")
    ∷ is_no_escaped_line (codes "OUT 0 0 a%4g")
    ∷ is_no_escaped_line (codes "OUT 0 0 %g4")
    ∷ is_no_escaped_line (codes "NET 0 0 0 %%41 -")
    ∷ is_no_escaped_line (codes "NET 0 0 0 %0A -")
    ∷ is_no_escaped_line (codes "IN 0 0 a%0a")
    ∷ is_no_escaped_line (codes "IN 0 0 ")
    -- no form
    ∷ is_no_port_line []
    ∷ is_no_port_line (codes "in 0 0 a")
    ∷ is_no_port_line (codes "IN 0 0")
    ∷ is_no_port_line (codes "IN 0 0 ")
    ∷ is_no_port_line (codes "IN 0 0 a ")
    ∷ is_no_port_line (codes "IN  0 0 a")
    ∷ is_no_port_line (codes "OUT 0 0 a b")
    ∷ is_no_port_line (codes "OUT 0 +0 a")
    ∷ is_no_port_line (codes "IN 18446744073709551616 0 a")
    ∷ is_no_port_line (codes "NET 0 0 0 a")
    ∷ is_no_port_line (codes "NET 0 0 18446744073709551616 a -")
    -- paths that are none
    ∷ is_no_port_line (codes "NET 0 0 0 a ")
    ∷ is_no_port_line (codes "NET 0 0 0 a -1")
    ∷ is_no_port_line (codes "NET 0 0 0 a .1")
    ∷ is_no_port_line (codes "NET 0 0 0 a --")
    ∷ is_no_port_line (codes "NET 0 0 0 a 01")
    ∷ is_no_port_line (codes "NET 0 0 0 a 1..2")
    ∷ is_no_port_line (codes "NET 0 0 0 a 1.")
    ∷ is_no_port_line (codes "NET 0 0 0 a 18446744073709551616")
    -- a line without a form comes before all other faults of the line
    ∷ has_port_fault (codes "#\n#C BLIFWW IN 0 0\n" ++ wire_cells) port.BadLine 2
    ∷ []

abbrev pub bad_order_examples : List PortFaultExample
bad_order_examples =
    has_port_fault (wire_in ++ wire_out ++ wire_cells) port.BadOrder 1
    ∷ has_port_fault (wire_in ++ version_four ++ wire_cells) port.BadOrder 1
    ∷ has_port_fault (version_four ++ wire_in ++ version_four ++ wire_cells) port.BadOrder 3
    ∷ has_port_fault (version_two ++ wire_in ++ version_two ++ wire_cells) port.BadOrder 3
    ∷ has_port_fault (version_two ++ version_four ++ wire_cells) port.BadOrder 2
    -- a table without a version has names as they stand
    ∷ has_port_fault (codes "#C BLIFWW IN 0 0 %4\n" ++ version_two ++ wire_cells) port.BadOrder 1
    -- also if the line's cell is outside
    ∷ has_port_fault (codes "#C BLIFWW OUT 3 0 y\n" ++ wire_cells) port.BadOrder 1
    ∷ []

abbrev pub outside_port_examples : List PortFaultExample
outside_port_examples =
    has_port_fault (version_four ++ codes "#C BLIFWW IN 3 0 a\n" ++ wire_out
    ++ wire_cells) port.CellOutside 2
    ∷ has_port_fault (version_four ++ wire_in ++ codes "#C BLIFWW OUT 0 1 y\n"
    ++ wire_cells) port.CellOutside 3
    ∷ has_port_fault (version_four ++ codes "#C BLIFWW NET 3 0 0 a -\n"
    ++ wire_cells) port.CellOutside 2
    -- also if the line's name stands in an earlier one
    ∷ has_port_fault (version_four ++ wire_in ++ codes "#C BLIFWW IN 3 0 a\n"
    ++ wire_cells) port.CellOutside 3
    ∷ []

abbrev pub twice_examples : List PortFaultExample
twice_examples =
    has_port_fault (version_four ++ wire_in ++ wire_in ++ wire_out ++ wire_cells) port.Twice 3
    ∷ has_port_fault (version_four ++ wire_out ++ wire_in ++ codes "#C BLIFWW OUT 0 0 y\n"
    ++ wire_cells) port.Twice 4
    ∷ has_port_fault (version_four ++ codes "#C BLIFWW NET 0 0 0 a 1\n#C BLIFWW NET 1 0 7 a 1\n"
    ++ wire_cells) port.Twice 3
    -- names are compared as they are meant
    ∷ has_port_fault (version_two ++ wire_in ++ codes "#C BLIFWW IN 1 0 %61\n"
    ++ wire_cells) port.Twice 3
    ∷ has_port_fault (version_two ++ codes "#C BLIFWW OUT 0 0 \t\n#C BLIFWW OUT 1 0 %09\n"
    ++ wire_cells) port.Twice 3
    ∷ has_port_fault (version_two ++ codes "#C BLIFWW NET 0 0 0 %4a 1\n#C BLIFWW NET 1 0 7 %4A 1\n"
    ++ wire_cells) port.Twice 3
    -- the earlier line of two comes first
    ∷ has_port_fault (version_four ++ wire_in ++ wire_in ++ version_four ++ wire_cells) port.Twice 3
    ∷ []

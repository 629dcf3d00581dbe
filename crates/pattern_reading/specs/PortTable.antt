-- What the port table of a text says, or its first fault.
use Rattle.std.specs.Prelude.{◌≡◌, ℕ, Bool, true, false, ◌&&◌, not, nat_lt, if◌then◌else◌, List, [], ◌∷◌, ◌++◌, Option, Some, None, slice_get, filter_map}
use Rattle.std.specs.List.{list_any, cons_option}
use Rattle.std.specs.Str.{bytes_eq}
use Rattle.pattern_reading.specs.declared.ports.PortLine.{PortLine}
use Rattle.pattern_reading.specs.declared.ports.NetLine.{NetLine}
use Rattle.pattern_reading.specs.declared.ports.Ports.{Ports}
use Rattle.pattern_reading.specs.declared.faults.PortFaultKind.{PortFaultKind}
use Rattle.pattern_reading.specs.declared.faults.PortFaultKind.TheVariants.{BadLine, BadOrder, CellOutside, Twice}
use Rattle.pattern_reading.specs.Numbers.{◌>>=◌}
use Rattle.pattern_reading.specs.PortLines.{PortForm, Version, In, Out, Net, TableLine, table_of}

abbrev pub is_version : PortForm → Bool
is_version (Version p l c) = true
is_version _ = false

-- whether the cell of a line is outside a box; a version line has no cell
abbrev pub is_outside : ℕ → ℕ → PortForm → Bool
is_outside width height (Version p l c) = false
is_outside width height (In port) = not (nat_lt port.x width && nat_lt port.y height)
is_outside width height (Out port) = not (nat_lt port.x width && nat_lt port.y height)
is_outside width height (Net net) = not (nat_lt net.x width && nat_lt net.y height)

-- whether two lines are of one kind with one name, and for nets one path
abbrev pub is_same_port : PortForm → PortForm → Bool
is_same_port (In a) (In b) = bytes_eq a.name b.name
is_same_port (Out a) (Out b) = bytes_eq a.name b.name
is_same_port (Net a) (Net b) = bytes_eq a.name b.name && bytes_eq a.path b.path
is_same_port _ _ = false

-- whether a line that has a form is in the wrong place: the first line must be the version line,
-- and no other line may be one
abbrev pub is_misplaced : List (Option PortForm) → PortForm → Bool
is_misplaced [] form = not (is_version form)
is_misplaced (first ∷ before) form = is_version form

-- What is at fault in a line, by the forms of the table's lines before it; of several faults it is
-- the first in the order of their names.
abbrev pub fault_of_form : ℕ → ℕ → List (Option PortForm) → Option PortForm → Option PortFaultKind
fault_of_form width height before None = Some BadLine
fault_of_form width height before (Some form) =
    if is_misplaced before form then Some BadOrder
    else if is_outside width height form then Some CellOutside
    else if list_any (is_same_port form) (filter_map (λ line. line) before) then Some Twice
    else None

-- a fault and its line
pub record PortFaultAt : Type 0 where
  pub kind : PortFaultKind
  pub line : ℕ

-- the faults of the table's lines, in order, if lines of these forms stand before them
abbrev pub faults_after : ℕ → ℕ → List (Option PortForm) → List TableLine → List PortFaultAt
faults_after width height before [] = []
faults_after width height before (line ∷ lines) =
    cons_option (fault_of_form width height before line.form >>= λ kind. Some
    (record { kind = kind; line = line.number }))
    (faults_after width height (before ++ line.form ∷ []) lines)

-- the faults of a text's table in a box of this width and height, in order
abbrev pub port_faults : List ℕ → ℕ → ℕ → List PortFaultAt
port_faults text width height = faults_after width height [] (table_of text)

-- the period, the latency and the number of contexts of the version line, or 32, 0 and 1 if there
-- is none
abbrev pub period_in : List PortForm → ℕ
period_in [] = 32
period_in (Version p l c ∷ forms) = p
period_in (_ ∷ forms) = period_in forms

abbrev pub latency_in : List PortForm → ℕ
latency_in [] = 0
latency_in (Version p l c ∷ forms) = l
latency_in (_ ∷ forms) = latency_in forms

abbrev pub contexts_in : List PortForm → ℕ
contexts_in [] = 1
contexts_in (Version p l c ∷ forms) = c
contexts_in (_ ∷ forms) = contexts_in forms

abbrev pub input_of : PortForm → Option PortLine
input_of (In port) = Some port
input_of _ = None

abbrev pub output_of : PortForm → Option PortLine
output_of (Out port) = Some port
output_of _ = None

abbrev pub net_of : PortForm → Option NetLine
net_of (Net net) = Some net
net_of _ = None

-- the table that lines of these forms make, each kind in the order of the lines
abbrev pub ports_of : List PortForm → Ports
ports_of forms = record {
  p = period_in forms;
  l = latency_in forms;
  c = contexts_in forms;
  ins = filter_map input_of forms;
  outs = filter_map output_of forms;
  nets = filter_map net_of forms;
}

-- the forms of the lines of a text's table
abbrev pub forms_of : List ℕ → List PortForm
forms_of text = filter_map (λ line. line.form) (table_of text)

-- The text reads as a port table in a box of this width and height, which is the header's if there
-- is one: no line of its table is at fault, and its lines make that table. A text without such
-- lines has the empty table of period 32, latency 0 and one context.
pub record ReadsAsPorts (text : List ℕ) (width height : ℕ) (ports : Ports) : Type 0 where
  pub no_fault : port_faults text width height ≡ []
  pub ports_is : ports ≡ ports_of (forms_of text)

-- This line is the first line of the table that is at fault, and this is its first fault.
abbrev pub HasPortFault : List ℕ → ℕ → ℕ → PortFaultKind → ℕ → Type 0
HasPortFault text width height kind line =
    slice_get (port_faults text width height) 0 ≡ Some (record { kind = kind; line = line })

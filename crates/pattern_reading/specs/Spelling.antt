-- How a port table of version 2 is spelled: each line in one way, with its numbers without leading
-- zeros.
use Rattle.std.specs.Prelude.{◌≡◌, ◌≢◌, ℕ, ◌^◌, ◌<◌, Bool, true, false, List, [], ◌∷◌, ◌++◌, flat_map, map, Option, Some, None, codes, decimal}
use Rattle.std.specs.List.{All, AllByRecursion, join_with_byte}
use Rattle.std.specs.Str.{byte}
use Rattle.ww_rule.specs.Grid.{Grid}
use Rattle.pattern_reading.specs.declared.ports.Ports.{Ports}
use Rattle.pattern_reading.specs.declared.ports.TableVersion.TheVariants.{Escaped}
use Rattle.pattern_reading.specs.Escapes.{escaped, is_plain_in_name, unescaped}
use Rattle.pattern_reading.specs.PortLines.{PortForm, Version, In, Out, Net, has_room, name_of_field, path_in, table_of}
use Rattle.pattern_reading.specs.Pattern.{ReadsAsPattern}
use Rattle.pattern_reading.specs.PortTable.{ReadsAsPorts, fault_of_form, ports_of}

-- a name with escapes
abbrev pub escaped_name : List ℕ → List ℕ
escaped_name name = escaped is_plain_in_name name

-- the fields of a line
abbrev pub fields_of : PortForm → List (List ℕ)
fields_of (Version p l c) =
    codes "2" ∷ codes "P" ∷ decimal p ∷ codes "L" ∷ decimal l ∷ codes "C" ∷ decimal c ∷ []
fields_of (In port) = codes "IN" ∷ decimal port.x ∷ decimal port.y ∷ escaped_name port.name ∷ []
fields_of (Out port) = codes "OUT" ∷ decimal port.x ∷ decimal port.y ∷ escaped_name port.name ∷ []
fields_of (Net net) =
    codes "NET" ∷ decimal net.x ∷ decimal net.y ∷ decimal net.offset ∷ escaped_name net.name
    ∷ net.path ∷ []

-- a line, with a space between each two fields, and lines with their line ends
abbrev pub spelled_line : PortForm → List ℕ
spelled_line form = codes "#C BLIFWW " ++ join_with_byte 32 (fields_of form)

abbrev pub spelled_table : List PortForm → List ℕ
spelled_table forms = flat_map (λ form. spelled_line form ++ 10 ∷ []) forms

-- the lines of a table in the order in which they are written: the version, the inputs, the
-- outputs, the nets
abbrev pub port_forms : Ports → List PortForm
port_forms ports =
    Version ports.p ports.l ports.c ∷ (map In ports.ins ++ map Out ports.outs ++ map Net ports.nets)

abbrev pub port_lines : Ports → List (List ℕ)
port_lines ports = map spelled_line (port_forms ports)

-- The lines of a table make that table.
abbrev pub HasItsForms : Ports → Type 0
HasItsForms ports = ports_of (port_forms ports) ≡ ports

-- bytes that lie in one field whatever follows them: no line feed, no carriage return and no space
abbrev pub IsField : List ℕ → Type 0
IsField bytes = All (λ b. (b ≢ 10) × (b ≢ 13) × (b ≢ 32)) bytes

-- a name that a table can have: one or more bytes, none of them a line feed
abbrev pub IsPortName : List ℕ → Type 0
IsPortName name = (name ≢ []) × All (λ b. b ≢ 10) name

-- With every test for the plain bytes that excludes `%`, bytes without a line feed are read back
-- from their escapes.
abbrev pub HasItsEscapes : (ℕ → Bool) → List ℕ → Type 0
HasItsEscapes is_plain bytes =
    is_plain (byte "%") ≡ false → All (λ b. b ≢ 10) bytes
    → unescaped (escaped is_plain bytes) ≡ Some bytes

-- A name with escapes is a field, and in version 2 this field stands for the name.
abbrev pub HasItsName : List ℕ → Type 0
HasItsName name =
    IsPortName name → IsField (escaped_name name)
    × (name_of_field Escaped (escaped_name name) ≡ Some name)

-- a line that can be spelled: its numbers can be written, its period is not 0 and has room for its
-- contexts, and it has a name and a path that can stand in a table
abbrev pub IsSpellable : PortForm → Type 0
IsSpellable (Version p l c) = (p ≢ 0) × (p < 2 ^ 64) × (l < 2 ^ 64) × (has_room p c ≡ true)
IsSpellable (In port) = (port.x < 2 ^ 64) × (port.y < 2 ^ 64) × IsPortName port.name
IsSpellable (Out port) = (port.x < 2 ^ 64) × (port.y < 2 ^ 64) × IsPortName port.name
IsSpellable (Net net) =
    (net.x < 2 ^ 64) × (net.y < 2 ^ 64) × (net.offset < 2 ^ 64) × IsPortName net.name
    × (path_in net.path ≡ Some net.path)

-- none of these lines is at fault, if lines of these forms stand before them
abbrev pub IsSoundAfter : ℕ → ℕ → List (Option PortForm) → List PortForm → Type 0
IsSoundAfter width height before [] = Unit {0}
IsSoundAfter width height before (form ∷ forms) =
    (fault_of_form width height before (Some form) ≡ None)
    × IsSoundAfter width height (before ++ Some form ∷ []) forms

-- A spelled table before a text that has none reads as the table of its lines.
abbrev pub HasSpelledPorts : List PortForm → List ℕ → Type 0
HasSpelledPorts forms rest =
    (width height : ℕ) → AllByRecursion IsSpellable forms → IsSoundAfter width height [] forms
    → table_of rest ≡ [] → ReadsAsPorts (spelled_table forms ++ rest) width height (ports_of forms)

-- A spelled table before a text changes nothing in the pattern that the text reads as.
abbrev pub HasSamePattern : List PortForm → List ℕ → Type 0
HasSamePattern forms rest =
    (grid : Grid) → AllByRecursion IsSpellable forms → ReadsAsPattern rest grid
    → ReadsAsPattern (spelled_table forms ++ rest) grid

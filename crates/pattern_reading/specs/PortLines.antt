-- The lines of a port table. The table stands in comments before the header, in a form of this
-- program's own, so that other readers of extended RLE skip it. There are two versions: version 2
-- is written, and version 1 is read as well.
use Rattle.std.specs.Prelude.{ℕ, Bool, ◌&&◌, ◌||◌, not, ◌==◌, ◌*◌, nat_le, if◌then◌else◌, List, [], ◌∷◌, length, slice_index, Option, Some, None, codes, is_some, filter_map, take_while, unwrap_or}
use Rattle.std.specs.List.{list_all, slice_split}
use Rattle.std.specs.Str.{bytes_eq, byte}
use Rattle.pattern_reading.specs.declared.ports.PortLine.{PortLine}
use Rattle.pattern_reading.specs.declared.ports.NetLine.{NetLine}
use Rattle.pattern_reading.specs.declared.ports.TableVersion.{TableVersion}
use Rattle.pattern_reading.specs.declared.ports.TableVersion.TheVariants.{Raw, Escaped}
use Rattle.pattern_reading.specs.Escapes.{unescaped}
use Rattle.pattern_reading.specs.Lines.{Line}
use Rattle.pattern_reading.specs.Numbers.{◌>>=◌, number_in, after_prefix}
use Rattle.lists.specs.Bytes.{non_empty}
use Rattle.pattern_reading.specs.Header.{lines_before_header}

-- what a line of the table says, by its form
pub data PortForm : Type 0 where
  -- `2 P p L l C c`; in version 1 `1 P p L l C c`, or `1 P p L l` if c is 1
  Version : ℕ → ℕ → ℕ → PortForm
  -- `IN x y name`
  In : PortLine → PortForm
  -- `OUT x y name`
  Out : PortLine → PortForm
  -- `NET x y offset name path`
  Net : NetLine → PortForm

-- a number without leading zeros
abbrev pub is_path_number : List ℕ → Bool
is_path_number digits =
    is_some (number_in digits) && (length digits == 1 || not (slice_index digits 0 == byte "0"))

-- a path is `-`, or numbers without leading zeros, joined by single dots
abbrev pub path_in : List ℕ → Option (List ℕ)
path_in field =
    if bytes_eq field (codes "-") || list_all is_path_number
    (slice_split (λ b. b == byte ".") field) then Some field else None

-- whether a period has room for so many contexts: it has room for one, and for more if each has 32
-- generations of it
abbrev pub has_room : ℕ → ℕ → Bool
has_room period contexts = contexts == 1 || (not (contexts == 0) && nat_le (32 * contexts) period)

-- the number of contexts, after its word `C`
abbrev pub count_in : List ℕ → List ℕ → Option ℕ
count_in c_word c = if bytes_eq c_word (codes "C") then number_in c else None

-- the version that a word names
abbrev pub version_named : List ℕ → Option TableVersion
version_named word =
    if bytes_eq word (codes "1") then Some Raw else if bytes_eq word (codes "2") then Some Escaped
    else None

-- the number of contexts if a version line does not give it: version 2 always gives it
abbrev pub uncounted : TableVersion → Option ℕ
uncounted Raw = Some 1
uncounted Escaped = None

-- a version line, by the fields after the version: the period is not 0, and has room for the
-- contexts
abbrev pub version_in : List ℕ → List ℕ → List ℕ → List ℕ → Option ℕ → Option PortForm
version_in p_word p l_word l contexts =
    if bytes_eq p_word (codes "P") && bytes_eq l_word (codes "L")
    then (do
      period ← number_in p
      latency ← number_in l
      count ← contexts
      if period == 0 || not (has_room period count) then None
          else Some (Version period latency count))
    else None

-- The name that a field stands for, of one or more bytes: in version 1 the field as it stands, and
-- in version 2 the field with its escapes read. No space stands in a field, since spaces separate
-- the fields.
abbrev pub name_of_field : TableVersion → List ℕ → Option (List ℕ)
name_of_field Raw field = non_empty field
name_of_field Escaped field = unescaped field >>= non_empty

abbrev pub port_in : TableVersion → List ℕ → List ℕ → List ℕ → Option PortLine
port_in version x y name = do
  column ← number_in x
  row ← number_in y
  word ← name_of_field version name
  Some (record { x = column; y = row; name = word })

abbrev pub net_in : TableVersion → List ℕ → List ℕ → List ℕ → List ℕ → List ℕ → Option NetLine
net_in version x y offset name path = do
  column ← number_in x
  row ← number_in y
  first ← number_in offset
  word ← name_of_field version name
  place ← path_in path
  Some (record { x = column; y = row; offset = first; name = word; path = place })

-- the form of a line with these fields in a table of a version, if it has one of the four
abbrev pub form_of_fields : TableVersion → List (List ℕ) → Option PortForm
form_of_fields version (kind ∷ x ∷ y ∷ name ∷ []) =
    if bytes_eq kind (codes "IN") then (port_in version x y name >>= λ port. Some (In port))
    else if bytes_eq kind (codes "OUT") then (port_in version x y name >>= λ port. Some (Out port))
    else None
form_of_fields version (number ∷ p_word ∷ p ∷ l_word ∷ l ∷ []) =
    version_named number >>= λ named. version_in p_word p l_word l (uncounted named)
form_of_fields version (number ∷ p_word ∷ p ∷ l_word ∷ l ∷ c_word ∷ c ∷ []) =
    version_named number >>= λ named. version_in p_word p l_word l (count_in c_word c)
form_of_fields version (kind ∷ x ∷ y ∷ offset ∷ name ∷ path ∷ []) =
    if bytes_eq kind (codes "NET") then
    (net_in version x y offset name path >>= λ net. Some (Net net)) else None
form_of_fields version _ = None

-- what follows `#C BLIFWW ` in a line that begins with it: such lines before the header are the
-- table
abbrev pub table_entry : Line → Option (List ℕ)
table_entry line = after_prefix (codes "#C BLIFWW ") line.bytes

-- the first field of an entry
abbrev pub first_field : List ℕ → List ℕ
first_field entry = take_while (λ b. not (b == byte " ")) entry

-- The version of a table, which the first field of its first entry names. If it names none, names
-- are read as they stand: then that entry, which is no version line, is in the wrong order if it
-- has a form.
abbrev pub version_of_entries : List (List ℕ) → TableVersion
version_of_entries [] = Raw
version_of_entries (entry ∷ entries) = unwrap_or (version_named (first_field entry)) Raw

-- a line of the table: its number, and its form, if it has one. The fields of a line are separated
-- by single spaces
pub record TableLine : Type 0 where
  pub number : ℕ
  pub form : Option PortForm

abbrev pub table_line : TableVersion → Line → Option TableLine
table_line version line = do
  entry ← table_entry line
  Some (record {
    number = line.number;
    form = form_of_fields version (slice_split (λ b. b == byte " ") entry);
  })

abbrev pub table_version : List ℕ → TableVersion
table_version text = version_of_entries (filter_map table_entry (lines_before_header text))

-- The lines of a text's table, in order. They stand before the header, which is the first line that
-- is neither a comment nor blank, whatever its form; if there is no such line, all lines are
-- searched for them.
abbrev pub table_of : List ℕ → List TableLine
table_of text = filter_map (table_line (table_version text)) (lines_before_header text)

-- The header of a text of extended RLE, by Golly's description: `x = 3, y = 1, rule = WireWorld`.
use Rattle.std.specs.Prelude.{ℕ, Bool, false, ◌||◌, not, if◌then◌else◌, List, Option, Some, None, codes, find, take_while}
use Rattle.std.specs.List.{list_all, after_first}
use Rattle.std.specs.Str.{byte, str_eq_ignore_ascii_case}
use Rattle.pattern_reading.specs.Lines.{Line, begins_with, lines_of}
use Rattle.pattern_reading.specs.Numbers.{◌>>=◌, is_blank, after_word, number_at_front, without_blanks_around}
use Rattle.lists.specs.Bytes.{non_empty}

-- what a header says; the rule's name may be missing
pub record Header : Type 0 where
  pub width : ℕ
  pub height : ℕ
  pub rule : Option (List ℕ)

-- The end of a header, after its two numbers: nothing, or `,` `rule` `=` and the rule's name, which
-- is not empty. Blanks are free between these and at the end.
abbrev pub rule_name_in : List ℕ → Option (List ℕ)
rule_name_in bytes = do
  after_comma ← after_word (codes ",") bytes
  after_rule ← after_word (codes "rule") after_comma
  after_equals ← after_word (codes "=") after_rule
  non_empty (without_blanks_around after_equals)

abbrev pub rule_in : List ℕ → Option (Option (List ℕ))
rule_in bytes =
    if list_all is_blank bytes then Some None else (rule_name_in bytes >>= λ name. Some (Some name))

-- A header: `x`, `=`, a number, `,`, `y`, `=`, a number, and perhaps `,`, `rule`, `=` and the
-- rule's name. Blanks are free between these and at both ends.
abbrev pub header_in : List ℕ → Option Header
header_in bytes = do
  after_x ← after_word (codes "x") bytes
  after_x_equals ← after_word (codes "=") after_x
  width ← number_at_front after_x_equals
  after_comma ← after_word (codes ",") width.1
  after_y ← after_word (codes "y") after_comma
  after_y_equals ← after_word (codes "=") after_y
  height ← number_at_front after_y_equals
  rule ← rule_in height.1
  Some (record { width = width.0; height = height.0; rule = rule })

-- whether this is the name of the rule, in any case of its letters
abbrev pub is_wireworld : Option (List ℕ) → Bool
is_wireworld None = false
is_wireworld (Some name) = str_eq_ignore_ascii_case name (codes "WireWorld")

-- whether a line is a comment: it begins with `#`
abbrev pub is_comment : Line → Bool
is_comment line = begins_with (byte "#") line.bytes

-- whether a line before the header is skipped: comments are, and lines of blanks
abbrev pub is_skipped : Line → Bool
is_skipped line = is_comment line || list_all is_blank line.bytes

-- the line that is to be the header: the first one that is not skipped
abbrev pub header_line : List ℕ → Option Line
header_line text = find (λ line. not (is_skipped line)) (lines_of text)

-- the lines before the header, or all lines if there is none, and the lines after the header
abbrev pub lines_before_header : List ℕ → List Line
lines_before_header text = take_while is_skipped (lines_of text)

abbrev pub lines_after_header : List ℕ → List Line
lines_after_header text = after_first (λ line. not (is_skipped line)) (lines_of text)

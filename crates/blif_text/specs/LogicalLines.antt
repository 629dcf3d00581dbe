-- The logical lines of a text, with their numbers and words, by the BLIF report of Berkeley.
use Rattle.std.specs.Prelude.{ℕ, Bool, true, false, ◌+◌, ◌==◌, ◌&&◌, ◌||◌, List, [], ◌∷◌, ◌++◌, Option, Some, None, option_map, filter_map}
use Rattle.std.specs.List.{list_all, before_first, onto_first}
use Rattle.std.specs.Str.Lines.{lines_of_parts}
use Rattle.blif_text.specs.declared.logical.Logical.{Logical}
use Rattle.lists.specs.Bytes.{non_empty}

-- the parts of a list of bytes before, between and after the bytes that pass the test
abbrev pub cut_or_kept : Bool → ℕ → List (List ℕ) → List (List ℕ)
cut_or_kept true b parts = [] ∷ parts
cut_or_kept false b parts = onto_first b parts

abbrev pub parts_between : (ℕ → Bool) → List ℕ → List (List ℕ)
parts_between p [] = [] ∷ []
parts_between p (b ∷ bs) = cut_or_kept (p b) b (parts_between p bs)

-- The physical lines: they end with byte 10, or with the text, and a byte 13 just before a byte 10
-- belongs to the line end.
abbrev pub is_newline : ℕ → Bool
is_newline b = b == 10

abbrev pub physical_lines : List ℕ → List (List ℕ)
physical_lines text = lines_of_parts (parts_between is_newline text)

-- Blanks are tab, vertical tab, form feed, carriage return and space.
abbrev pub is_space : ℕ → Bool
is_space b = b == 9 || b == 11 || b == 12 || b == 13 || b == 32

-- `#` starts a comment to the end of its physical line
abbrev pub is_hash : ℕ → Bool
is_hash b = b == 35

abbrev pub without_comment : List ℕ → List ℕ
without_comment line = before_first is_hash line

-- the bytes before a `\` that only blanks follow, if there is one
abbrev pub found_or_later : Bool → ℕ → Option (List ℕ) → Option (List ℕ)
found_or_later true b later = Some []
found_or_later false b later = option_map (λ front. b ∷ front) later

abbrev pub before_backslash : List ℕ → Option (List ℕ)
before_backslash [] = None
before_backslash (b ∷ bs) = found_or_later (b == 92 && list_all is_space bs) b (before_backslash bs)

-- bytes of one or more physical lines, with the number of the first
pub record JoinedLine : Type 0 where
  pub line : ℕ
  pub bytes : List ℕ

abbrev pub joined_line : ℕ → List ℕ → JoinedLine
joined_line n bytes = record { line = n; bytes = bytes }

-- If a `\` ends the physical line of this number, the next line is joined on, with nothing between;
-- at the end of the text there is nothing to join.
abbrev pub joined_to : ℕ → List ℕ → List JoinedLine → List JoinedLine
joined_to n front [] = joined_line n front ∷ []
joined_to n front (next ∷ later) = joined_line n (front ++ next.bytes) ∷ later

abbrev pub continued_by : ℕ → List ℕ → Option (List ℕ) → List JoinedLine → List JoinedLine
continued_by n bytes None later = joined_line n bytes ∷ later
continued_by n bytes (Some front) later = joined_to n front later

-- the lines from number n on, without their comments, each joined to the next if it is continued
abbrev pub joined_lines : ℕ → List (List ℕ) → List JoinedLine
joined_lines n [] = []
joined_lines n (line ∷ lines) =
    continued_by n (without_comment line) (before_backslash (without_comment line))
    (joined_lines (n + 1) lines)

-- Words are the longest runs of bytes that are no blanks.
abbrev pub words_of : List ℕ → List (List ℕ)
words_of line = filter_map non_empty (parts_between is_space line)

-- the line of these words; a line without a word is skipped
abbrev pub with_words : ℕ → List (List ℕ) → Option Logical
with_words n [] = None
with_words n (word ∷ words) = Some (record { line = n; words = word ∷ words })

abbrev pub logical_line : JoinedLine → Option Logical
logical_line joined = with_words joined.line (words_of joined.bytes)

-- The logical lines of a text. A line's number is that of its first physical line, from 1.
abbrev pub logical_lines : List ℕ → List Logical
logical_lines text = filter_map logical_line (joined_lines 1 (physical_lines text))

-- The lines of a text. A line ends with a line feed (byte 10), or with a carriage return (byte 13)
-- and a line feed. The last line may lack its end, and nothing stands after the last line end.
use Rattle.std.specs.Prelude.{ℕ, ◌+◌, Bool, true, false, ◌&&◌, ◌==◌, if◌then◌else◌, List, [], ◌∷◌, length, max}

-- a line without its end; the lines have the numbers 1, 2, 3, ..
pub record Line : Type 0 where
  pub number : ℕ
  pub bytes : List ℕ
  -- whether it has a line end, which only the last line may lack
  pub is_ended : Bool

-- whether the bytes begin with this one
abbrev pub begins_with : ℕ → List ℕ → Bool
begins_with b [] = false
begins_with b (c ∷ cs) = c == b

-- the text with a line feed alone for each line end: a carriage return directly before a line feed
-- is left out
abbrev pub with_line_feeds : List ℕ → List ℕ
with_line_feeds [] = []
with_line_feeds (b ∷ bs) =
    let rest = with_line_feeds bs in
    if b == 13 && begins_with 10 bs then rest else b ∷ rest

-- a byte put before the first of these lines; if there is none, it becomes a line n without an end
abbrev pub onto_first_line : ℕ → ℕ → List Line → List Line
onto_first_line n b [] = record { number = n; bytes = b ∷ []; is_ended = false } ∷ []
onto_first_line n b (line ∷ lines) = record line { bytes = b ∷ line.bytes } ∷ lines

-- the lines of a text whose line ends are line feeds alone, numbered from n: each line feed ends a
-- line
abbrev pub lines_from : ℕ → List ℕ → List Line
lines_from n [] = []
lines_from n (b ∷ bs) =
    let after_end = lines_from (n + 1) bs in
    let of_rest = lines_from n bs in
    if b == 10 then record { number = n; bytes = []; is_ended = true } ∷ after_end
    else onto_first_line n b of_rest

-- the lines of a text
abbrev pub lines_of : List ℕ → List Line
lines_of text = lines_from 1 (with_line_feeds text)

-- the number of the line that holds the text's last byte; 1 for an empty text
abbrev pub last_line : List ℕ → ℕ
last_line text = max 1 (length (lines_of text))

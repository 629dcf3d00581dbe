-- Bytes of which some are written as escapes: `%` and two hexadecimal digits, as in URLs (RFC 3986,
-- section 2.1).
use Rattle.std.specs.Prelude.{ℕ, ◌+◌, ◌*◌, ◌/◌, ◌%◌, Bool, true, ◌&&◌, ◌||◌, not, ◌==◌, nat_lt, if◌then◌else◌, List, [], ◌∷◌, flat_map, Option, Some, None, option_map}
use Rattle.std.specs.Char.{digit_value, is_ascii_graphic, is_digit}
use Rattle.std.specs.Fmt.{digit_glyph}
use Rattle.std.specs.Str.{byte}
use Rattle.pattern_reading.specs.Numbers.{◌>>=◌}

-- A byte as it is written: itself if it is plain, and else an escape, whose digits are in upper
-- case. A number over 255, which is no byte, stands for itself.
abbrev pub escaped_byte : (ℕ → Bool) → ℕ → List ℕ
escaped_byte is_plain b =
    if is_plain b || nat_lt 255 b then b ∷ []
    else byte "%" ∷ digit_glyph true (b / 16) ∷ digit_glyph true (b % 16) ∷ []

-- bytes as they are written, by a test for the plain ones
abbrev pub escaped : (ℕ → Bool) → List ℕ → List ℕ
escaped is_plain bytes = flat_map (escaped_byte is_plain) bytes

-- in names of a port table the plain bytes are those that ASCII prints (33 to 126), except `%`
abbrev pub is_plain_in_name : ℕ → Bool
is_plain_in_name b = is_ascii_graphic b && not (b == byte "%")

-- the byte that two hexadecimal digits of either case stand for; a line feed is in no name
abbrev pub escape_in : ℕ → ℕ → Option ℕ
escape_in high low =
    let b = digit_value high * 16 + digit_value low in
    if is_digit high 16 && is_digit low 16 && not (b == 10) then Some b else None

-- one more byte before the bytes that a text stands for, if it stands for some
abbrev pub onto : ℕ → Option (List ℕ) → Option (List ℕ)
onto b bytes = option_map (λ bs. b ∷ bs) bytes

-- The bytes that a text with escapes stands for: each `%` must begin an escape, or the text stands
-- for nothing; any other byte stands for itself.
abbrev pub unescaped : List ℕ → Option (List ℕ)
unescaped [] = Some []
unescaped (b ∷ high ∷ low ∷ rest) =
    let after_escape = unescaped rest in
    let after_byte = unescaped (high ∷ low ∷ rest) in
    if b == byte "%" then (escape_in high low >>= λ e. onto e after_escape) else onto b after_byte
-- (here fewer than two bytes follow)
unescaped (b ∷ rest) =
    let after_byte = unescaped rest in
    if b == byte "%" then None else onto b after_byte

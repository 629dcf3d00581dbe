-- The lines of outputs, and of nets.
use Rattle.std.specs.Prelude.{ℕ, Bool, if◌then◌else◌, List, ◌++◌, map, codes}
use Rattle.std.specs.Str.{byte}
use Rattle.streams.specs.Cuts.{with_context}

-- a bit as a digit
abbrev pub bit_digit : Bool → ℕ
bit_digit bit = if bit then byte "1" else byte "0"

-- an output's line: its name, and its bits
abbrev pub bits_line : List ℕ → List Bool → List ℕ
bits_line name bits = name ++ (codes "=" ++ (map bit_digit bits ++ codes "\n"))

-- the line of an output in a context; if there are several contexts, the number of the context
-- stands before the name
abbrev pub context_line : (contexts context : ℕ) → List ℕ → List Bool → List ℕ
context_line contexts context name bits = bits_line (with_context contexts context name) bits

-- The names of variables in a VCD text. In the format a `$` begins a keyword, so in these names it
-- is written as an escape, like each byte that is an escape in a name of a port table.
use Rattle.std.specs.Prelude.{◌≢◌, ◌<◌, ℕ, ◌==◌, ◌&&◌, not, Bool, List, [], All}
use Rattle.std.specs.Str.{byte}
use Rattle.pattern_reading.specs.Escapes.{escaped, is_plain_in_name}
use Rattle.vcd_write.specs.Reading.{IsWord}

abbrev pub is_plain_in_reference : ℕ → Bool
is_plain_in_reference b = is_plain_in_name b && not (b == byte "$")

-- a name with escapes, as it stands in a reference
abbrev pub escaped_reference : List ℕ → List ℕ
escaped_reference name = escaped is_plain_in_reference name

-- A name of one or more bytes, whatever they are, stands in a reference as a word.
abbrev pub ReferencesAreWords : Type 0
ReferencesAreWords =
    (name : List ℕ) → name ≢ [] → All (λ b. b < 256) name → IsWord (escaped_reference name)

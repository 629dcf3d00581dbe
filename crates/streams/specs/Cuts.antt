-- Where a word of the command line is cut: at its last `=`; and if what stands before that names a
-- context, at its first `:`, as in `1:a=0110`.
use Rattle.std.specs.Prelude.{ℕ, ◌==◌, ◌&&◌, ◌||◌, ◌∷◌, ◌++◌, not, if◌then◌else◌, nat_lt, Bool, List, get_or, length, decimal}
use Rattle.std.specs.Char.{is_ascii_digit}
use Rattle.std.specs.List.{list_any, list_all, before_first, after_first, before_last, after_last}
use Rattle.std.specs.Str.{byte}
use Rattle.std.specs.Str.Parse.{digits_value}

abbrev pub is_equals_sign : ℕ → Bool
is_equals_sign b = b == byte "="

-- a word is cut at its last `=`: the name stands before it
abbrev pub name_in : List ℕ → List ℕ
name_in word = before_last is_equals_sign word

-- the bits of a word stand after its last `=`
abbrev pub bits_in : List ℕ → List ℕ
bits_in word = after_last is_equals_sign word

abbrev pub is_colon : ℕ → Bool
is_colon b = b == byte ":"

-- there is at least one digit, and the first is no `0` if others follow
abbrev pub is_unpadded : List ℕ → Bool
is_unpadded digits =
    length digits == 1 || (nat_lt 1 (length digits) && not (get_or digits 0 0 == byte "0"))

-- these are decimal digits without leading zeros
abbrev pub is_unpadded_number : List ℕ → Bool
is_unpadded_number digits = list_all is_ascii_digit digits && is_unpadded digits

-- a name has a `:`, and before its first one the number of a context, below `contexts`
abbrev pub has_context : ℕ → List ℕ → Bool
has_context contexts name =
    let number = before_first is_colon name in
    list_any is_colon name && (is_unpadded_number number
    && nat_lt (digits_value 10 number) contexts)

-- that number, and below, the name after the `:`
abbrev pub context_of : List ℕ → ℕ
context_of name = digits_value 10 (before_first is_colon name)

abbrev pub name_after : List ℕ → List ℕ
name_after name = after_first is_colon name

-- A name belongs to a context: if there is one context, names stand alone; else a name has the
-- number of its context and a `:` before it.
abbrev pub names_context : (contexts : ℕ) → List ℕ → Bool
names_context contexts name = contexts == 1 || has_context contexts name

-- the context of a name, which is 0 if there is one context; and below, the name without it
abbrev pub context_named : (contexts : ℕ) → List ℕ → ℕ
context_named contexts name = if contexts == 1 then 0 else context_of name

abbrev pub without_context : (contexts : ℕ) → List ℕ → List ℕ
without_context contexts name = if contexts == 1 then name else name_after name

-- a name as it is written for a context
abbrev pub with_context : (contexts context : ℕ) → List ℕ → List ℕ
with_context contexts context name =
    if contexts == 1 then name else decimal context ++ byte ":" ∷ name

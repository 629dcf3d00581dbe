-- Numbers and words in a line.
use Rattle.std.specs.Prelude.{ℕ, ◌^◌, Bool, ◌&&◌, ◌||◌, ◌==◌, nat_le, ◌-◌, if◌then◌else◌, List, [], ◌∷◌, length, drop, reverse, Option, Some, None, take_while}
use Rattle.std.specs.List.{list_all, prefix_len}
use Rattle.std.specs.Char.{is_ascii_digit}
use Rattle.std.specs.Str.Parse.{digits_value}

-- the greatest number that a text may write, 18446744073709551615
abbrev pub greatest_number : ℕ
greatest_number = 2 ^ 64 - 1

-- The number that bytes write: one or more decimal digits, leading zeros free, at most the greatest
-- number.
abbrev pub number_in : List ℕ → Option ℕ
number_in [] = None
number_in (b ∷ bs) =
    if list_all is_ascii_digit (b ∷ bs) && nat_le (digits_value 10 (b ∷ bs)) greatest_number
    then Some (digits_value 10 (b ∷ bs))
    else None

-- a tab or a space
abbrev pub is_blank : ℕ → Bool
is_blank b = b == 9 || b == 32

-- the bytes without the blanks at their beginning, and without those at both ends
abbrev pub without_leading_blanks : List ℕ → List ℕ
without_leading_blanks bytes = drop (prefix_len is_blank bytes) bytes

abbrev pub without_blanks_around : List ℕ → List ℕ
without_blanks_around bytes =
    reverse (without_leading_blanks (reverse (without_leading_blanks bytes)))

-- One reading after the other, as long as each finds what it looks for.
infixl 10 ◌>>=◌
abbrev pub ◌>>=◌ : {A B : Type 0} → Option A → (A → Option B) → Option B
None >>= read = None
(Some x) >>= read = read x

-- what follows a word, if the bytes begin with it
abbrev pub after_prefix : List ℕ → List ℕ → Option (List ℕ)
after_prefix [] bytes = Some bytes
after_prefix (c ∷ word) [] = None
after_prefix (c ∷ word) (b ∷ bytes) = if b == c then after_prefix word bytes else None

-- what follows a word; blanks may stand before it
abbrev pub after_word : List ℕ → List ℕ → Option (List ℕ)
after_word word bytes = after_prefix word (without_leading_blanks bytes)

-- a number and what follows its digits; blanks may stand before it
abbrev pub number_at_front : List ℕ → Option (ℕ × List ℕ)
number_at_front bytes =
    let digits = take_while is_ascii_digit (without_leading_blanks bytes) in
    number_in digits >>= λ n. Some (n, drop (length digits) (without_leading_blanks bytes))

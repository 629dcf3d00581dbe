-- Numbers among the words of the command line.
use Rattle.std.specs.Prelude.{◌≤◌, ℕ, Bool, ◌&&◌, nat_le, if◌then◌else◌, List, [], ◌∷◌, Option, Some, None, false, codes}
use Rattle.std.specs.List.{list_all}
use Rattle.std.specs.Char.{is_ascii_digit}
use Rattle.std.specs.Str.{bytes_eq}
use Rattle.std.specs.Str.Parse.{digits_value}

-- one or more decimal digits, and no sign
abbrev pub are_digits : List ℕ → Bool
are_digits [] = false
are_digits (b ∷ bs) = list_all is_ascii_digit (b ∷ bs)

-- the number that the digits write, if it lies between two bounds; leading zeros are allowed
abbrev pub number_between : ℕ → ℕ → List ℕ → Option ℕ
number_between least most text =
    if are_digits text && (nat_le least (digits_value 10 text)
    && nat_le (digits_value 10 text) most)
    then Some (digits_value 10 text)
    else None

-- an option that takes a number: its name, and the least and the greatest number that it takes
pub record NumberRange : Type 0 where
  pub name : List ℕ
  pub least : ℕ
  pub most : ℕ

-- the number that the text writes in digits, if the option takes it
abbrev pub number_taken : NumberRange → List ℕ → Option ℕ
number_taken range text = number_between range.least range.most text

abbrev pub cycles_range : NumberRange
cycles_range = record { name = codes "cycles"; least = 1; most = 1048576 }

-- `tape` takes fewer cycles than the others
abbrev pub tape_cycles_range : NumberRange
tape_cycles_range = record { name = codes "cycles"; least = 1; most = 4096 }

abbrev pub generation_range : NumberRange
generation_range = record { name = codes "gen"; least = 0; most = 4294967296 }

abbrev pub x_range : NumberRange
x_range = record { name = codes "x"; least = 0; most = 4294967295 }

abbrev pub y_range : NumberRange
y_range = record { name = codes "y"; least = 0; most = 4294967295 }

abbrev pub width_range : NumberRange
width_range = record { name = codes "width"; least = 1; most = 4096 }

abbrev pub height_range : NumberRange
height_range = record { name = codes "height"; least = 1; most = 4096 }

abbrev pub seed_range : NumberRange
seed_range = record { name = codes "seed"; least = 0; most = 2147483647 }

abbrev pub size_range : NumberRange
size_range = record { name = codes "size"; least = 1; most = 128 }

abbrev pub contexts_range : NumberRange
contexts_range = record { name = codes "contexts"; least = 1; most = 4294967295 }

-- the options that take numbers, of the commands except `tape`
abbrev pub number_ranges : List NumberRange
number_ranges =
    cycles_range ∷ generation_range ∷ x_range ∷ y_range ∷ width_range ∷ height_range ∷ seed_range
    ∷ size_range ∷ contexts_range ∷ []

-- the options of a command of this name that take numbers
abbrev pub ranges_of : List ℕ → List NumberRange
ranges_of command =
    if bytes_eq command (codes "tape") then tape_cycles_range ∷ [] else number_ranges

-- the option takes this number
abbrev pub TakesNumber : NumberRange → ℕ → Type 0
TakesNumber range number = (range.least ≤ number) × (number ≤ range.most)

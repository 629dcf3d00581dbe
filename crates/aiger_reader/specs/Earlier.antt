-- Names that stand among earlier ones.
use Rattle.std.specs.Prelude.{ℕ, ◌≡◌, ◌&&◌, ◌||◌, nat_lt, Bool, false, List, [], take, drop, get_or, Option, Some, None, bytes_eq}
use Rattle.std.specs.BTreeSet.{BTreeSet}
use denote.Ref.{Bor}
use Rattle.lists.specs.Names.{is_among, holds_name}
use Rattle.pattern_reading.specs.Numbers.{number_in}

-- the number after the first byte of a name, as it stands in a plain name
abbrev pub number_of_name : List ℕ → Option ℕ
number_of_name name = number_in (drop 1 name)

-- this name is also the earlier name at that number
abbrev pub is_earlier : List (List ℕ) → (i : ℕ) → List ℕ → Option ℕ → Bool
is_earlier names i name None = false
is_earlier names i name (Some k) = nat_lt k i && bytes_eq (get_or names k []) name

-- A name is among the first i exactly if the set has it or it stands at its own number.
abbrev pub KnowsEarlier : List (List ℕ) → ℕ → BTreeSet (Bor (List ℕ)) → Type 0
KnowsEarlier names i seen =
    (name : List ℕ) → is_among name (take i names)
    ≡ (holds_name seen name || is_earlier names i name (number_of_name name))

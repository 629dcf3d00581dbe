-- Numbers that lead to others: for each number, counted from 0, a list of its steps.
use Rattle.std.specs.Prelude.{ℕ, ◌≡◌, ◌<◌, List, [], length, get_or, Option, Some, None}

abbrev pub Links : Type 0
Links = List (List (Option ℕ))

-- the k-th step from a number leads to another
abbrev pub LeadsTo : Links → ℕ → ℕ → ℕ → Type 0
LeadsTo links n k other = get_or (get_or links n []) k None ≡ Some other

-- a step from a number leads to another
abbrev pub LeadsOnTo : Links → ℕ → ℕ → Type 0
LeadsOnTo links n other = (k : ℕ) × LeadsTo links n k other

-- no step leads to a number that has no list
abbrev pub StayWithin : Links → Type 0
StayWithin links = (n k other : ℕ) → LeadsTo links n k other → other < length links

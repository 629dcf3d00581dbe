-- What stands at a place of a list, and what a test puts into one.
use Rattle.std.specs.Prelude.{ℕ, Bool, false, cond, List, [], ◌∷◌, get_or}

-- the bit, the number or the list at a place; past the end the bit and the number are 0, and the
-- list is empty
abbrev pub flag_at : List Bool → ℕ → Bool
flag_at flags k = get_or flags k false

abbrev pub number_at : List ℕ → ℕ → ℕ
number_at numbers k = get_or numbers k 0

abbrev pub list_at : {A : Type 0} → List (List A) → ℕ → List A
list_at lists k = get_or lists k []

-- 1 if the test holds, else 0
abbrev pub one_if : Bool → ℕ
one_if test = cond test 1 0

-- the list of the item alone if the test holds, else the empty list
abbrev pub alone_if : {A : Type 0} → Bool → A → List A
alone_if test item = cond test (item ∷ []) []

-- What the rows of a `.names` line say, by the BLIF report.
use Rattle.std.specs.Prelude.{ℕ, List, [], ◌∷◌, Bool, true, false, not, ◌==◌, zip}
use Rattle.std.specs.List.{list_all, list_any}

-- a character of a row under a bit: `1` wants a 1, `0` wants a 0, and `-` takes both
abbrev pub fits : ℕ → Bool → Bool
fits character true = not (character == 48)
fits character false = not (character == 49)

-- a row's product holds when each `1` stands under a bit 1 and each `0` under a bit 0
abbrev pub product_holds : List ℕ → List Bool → Bool
product_holds row bits = list_all (λ column. fits column.0 column.1) (zip row bits)

-- some row's product holds
abbrev pub any_holds : List (List ℕ) → List Bool → Bool
any_holds rows bits = list_any (λ row. product_holds row bits) rows

-- Rows ending in `1`: the output is 1 exactly when a product holds. Rows ending in `0`: it is 0
-- exactly when one holds. No rows: constant 0
abbrev pub cover_value : List (List ℕ) → Bool → List Bool → Bool
cover_value [] on bits = false
cover_value (row ∷ rows) true bits = any_holds (row ∷ rows) bits
cover_value (row ∷ rows) false bits = not (any_holds (row ∷ rows) bits)

-- Lists of bytes that may be empty.
use Rattle.std.specs.Prelude.{ℕ, List, [], ◌∷◌, Option, Some, None}

-- the bytes, if there is at least one
abbrev pub non_empty : List ℕ → Option (List ℕ)
non_empty [] = None
non_empty (b ∷ bs) = Some (b ∷ bs)

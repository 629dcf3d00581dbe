-- How large the box of a routed circuit may be.
use Rattle.std.specs.Prelude.{ℕ}

-- the greatest number of cells of a box that is looked at
abbrev pub box_limit : ℕ
box_limit = 67108864

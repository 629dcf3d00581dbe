-- Windows: slices of cells, row by row, as planes.
use Rattle.std.specs.Prelude.{pos, negsuc, ℕ, ◌+◌, ◌*◌, ltb, cond, List, get_or}
use Rattle.ww_rule.specs.declared.pattern.State.{State}
use Rattle.ww_rule.specs.declared.pattern.State.TheVariants.{Empty}
use Rattle.ww_rule.specs.Wireworld.{Plane}

-- rows of `width` cells, the first at y = 0, with x from 0 eastward; all else is empty
abbrev pub shown : List State → ℕ → Plane
shown cells width (pos x) (pos y) = cond (ltb x width) (get_or cells (y * width + x) Empty) Empty
shown cells width (pos x) (negsuc y) = Empty
shown cells width (negsuc x) y = Empty

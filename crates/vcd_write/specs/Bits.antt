-- Bits in words of memory.
use Rattle.std.specs.Prelude.{ℕ, Bool, List, map}
use Rattle.std.specs.List.{range_with_len}
use Rattle.lane_kernel.specs.Rows.{is_set}

-- the first `count` bits of words
abbrev pub unpacked : (count : ℕ) → List ℕ → List Bool
unpacked count words = map (is_set words) (range_with_len 0 count)

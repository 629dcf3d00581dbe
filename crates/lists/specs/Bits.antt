-- Single bits of words.
use Rattle.std.specs.Prelude.{ℕ, Bool, ◌==◌}
use Rattle.std.specs.Int.{bit_at}

-- is bit i of a word set?
abbrev pub has_bit : ℕ → ℕ → Bool
has_bit word i = bit_at word i == 1

-- Words of 64 bits as truth tables: the bit at a number is the value for the nets' bits that make
-- this number.
use Rattle.std.specs.Prelude.{ℕ, ◌+◌, ◌*◌, Bool, cond, List, [], ◌∷◌}
use Rattle.lists.specs.Bits.{has_bit}

-- the number that bits make, the first of them lowest
abbrev pub bits_number : List Bool → ℕ
bits_number [] = 0
bits_number (bit ∷ bits) = cond bit 1 0 + 2 * bits_number bits

-- the value of a table, if the nets have these bits
abbrev pub table_bit : List Bool → ℕ → Bool
table_bit bits word = has_bit word (bits_number bits)

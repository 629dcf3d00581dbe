-- Rows of cells in words of bits: bit i of word j is cell 64 j + i.
use Rattle.std.specs.Prelude.{pos, ℕ, zero, suc, ◌/◌, ◌%◌, ◌≡◌, Bool, false, ◌&&◌, ◌||◌, ◌==◌, cond, List, get_or}
use Rattle.ww_rule.specs.declared.pattern.State.{State}
use Rattle.ww_rule.specs.declared.pattern.State.TheVariants.{Empty, Head, Tail, Conductor}
use Rattle.ww_rule.specs.Wireworld.{Plane, heads_around, next_plane}
use Rattle.ww_rule.specs.Grid.{framed}
use Rattle.lists.specs.Bits.{has_bit}

-- the bit of a cell is set; beyond the words none is
abbrev pub is_set : List ℕ → ℕ → Bool
is_set words x = has_bit (get_or words (x / 64) 0) (x % 64)

-- the state of a cell with these three bits
abbrev pub state_of : Bool → Bool → Bool → State
state_of head tail wire = cond head Head (cond tail Tail (cond wire Conductor Empty))

-- the state of a cell of a row of heads, tails and wires
abbrev pub row_state : List ℕ → List ℕ → List ℕ → ℕ → State
row_state heads tails wires x = state_of (is_set heads x) (is_set tails x) (is_set wires x)

-- the states of three rows, by column and row; the upper and the lower row have heads alone
abbrev pub three_rows : List ℕ → List ℕ → List ℕ → List ℕ → List ℕ → ℕ → ℕ → State
three_rows above heads below tails wires x zero = state_of (is_set above x) false false
three_rows above heads below tails wires x (suc zero) = row_state heads tails wires x
three_rows above heads below tails wires x (suc (suc zero)) = state_of (is_set below x) false false
three_rows above heads below tails wires x (suc (suc (suc y))) = Empty

-- the plane of three rows that stand alone
abbrev pub plane_of_rows : List ℕ → List ℕ → List ℕ → List ℕ → List ℕ → Plane
plane_of_rows above heads below tails wires = framed (three_rows above heads below tails wires)

-- the number of heads around the cell of column x in the middle row, and below, the cell's state
-- one generation later
abbrev pub heads_in_rows : List ℕ → List ℕ → List ℕ → List ℕ → List ℕ → ℕ → ℕ
heads_in_rows above heads below tails wires x =
    heads_around (plane_of_rows above heads below tails wires) (pos x) (pos 1)

abbrev pub next_in_rows : List ℕ → List ℕ → List ℕ → List ℕ → List ℕ → ℕ → State
next_in_rows above heads below tails wires x =
    next_plane (plane_of_rows above heads below tails wires) (pos x) (pos 1)

-- no cell has its bit in two of the rows
abbrev pub AreDisjoint : List ℕ → List ℕ → List ℕ → Type 0
AreDisjoint heads tails wires =
    (x : ℕ) → ((is_set heads x && is_set tails x) || (is_set heads x && is_set wires x)
    || (is_set tails x && is_set wires x)) ≡ false

-- with so many heads around it a conductor becomes a head
abbrev pub is_one_or_two : ℕ → Bool
is_one_or_two n = n == 1 || n == 2

-- What planes show at cells, generation after generation.
use Rattle.std.specs.Prelude.{ℕ, pos, ◌+◌, ◌*◌, Bool, List, map, flat_map}
use Rattle.std.specs.List.{range_with_len}
use Rattle.ww_rule.specs.Wireworld.{Plane, is_head}

-- the bits that a plane shows at cells: 1 where the cell is a head
abbrev pub bits_on : Plane → List (ℕ × ℕ) → List Bool
bits_on plane cells = map (λ cell. is_head (plane (pos cell.0) (pos cell.1))) cells

-- the bits that planes show at cells in a cycle, one context after the other; the first context
-- shows them at generation `first`
abbrev pub row_of_cycle : (ℕ → Plane) → (contexts first : ℕ) → List (ℕ × ℕ) → List Bool
row_of_cycle planes contexts first cells =
    flat_map (λ context. bits_on (planes (first + 32 * context)) cells) (range_with_len 0 contexts)

-- the rows of all cycles
abbrev pub rows_of_cycles : (ℕ → Plane) → (contexts period cycles first : ℕ) → List (ℕ × ℕ)
    → List (List Bool)
rows_of_cycles planes contexts period cycles first cells =
    map (λ cycle. row_of_cycle planes contexts (first + cycle * period) cells)
    (range_with_len 0 cycles)

-- the bits of a cell in a context, cycle after cycle: 1 where it is a head at generation
-- first + 32 k + t P, k being the context
abbrev pub column_of_cell : (ℕ → Plane) → (period cycles first context : ℕ) → ℕ × ℕ → List Bool
column_of_cell planes period cycles first context cell =
    map (λ cycle. is_head (planes (first + 32 * context + cycle * period) (pos cell.0)
    (pos cell.1))) (range_with_len 0 cycles)

-- the bits of each cell in each context: all cells of context 0 first
abbrev pub columns_of_cells : (ℕ → Plane) → (contexts period cycles first : ℕ) → List (ℕ × ℕ)
    → List (List Bool)
columns_of_cells planes contexts period cycles first cells =
    flat_map (λ context. map (column_of_cell planes period cycles first context) cells)
    (range_with_len 0 contexts)

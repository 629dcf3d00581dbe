-- Cells that are listed, and a table that has at each place of a window the serial of the cell there:
-- its number, counted from 1, or 0 where no listed cell is.
use Rattle.std.specs.Prelude.{ℤ, pos, negsuc, ◌-ℤ◌, ℕ, suc, ◌+◌, ◌-◌, ◌*◌, ◌/◌, ◌%◌, ◌<◌, ◌≤◌, ◌≡◌, ◌⊎◌, ltb, cond, List, length, get_or}
use Rattle.ww_rule.specs.declared.pattern.State.{State}
use Rattle.ww_rule.specs.declared.pattern.State.TheVariants.{Empty}
use Rattle.gate_laws.specs.Wires.{IsNear}
use Rattle.tile_timing.specs.Window.{shown}

-- the serial in the table at x, y; outside it is 0
abbrev pub serial_at : List ℕ → (width : ℕ) → ℤ → ℤ → ℕ
serial_at serials width (pos x) (pos y) = cond (ltb x width) (get_or serials (y * width + x) 0) 0
serial_at serials width (pos x) (negsuc y) = 0
serial_at serials width (negsuc x) y = 0

abbrev pub listed_cell : List (ℕ × ℕ) → ℕ → ℤ × ℤ
listed_cell cells n = (pos (get_or cells n (0, 0)).0, pos (get_or cells n (0, 0)).1)

-- the listed cell of this number has its serial in the table
abbrev pub HasSerial : List (ℕ × ℕ) → List ℕ → (width n : ℕ) → Type 0
HasSerial cells serials width n =
    serial_at serials width (listed_cell cells n).0 (listed_cell cells n).1 ≡ n + 1

-- place k of the table: nothing is listed there, and nothing drawn; or the listed cell is here
abbrev pub IsListedAt : List (ℕ × ℕ) → List State → List ℕ → (width k : ℕ) → Type 0
IsListedAt cells states serials width k =
    ((get_or serials k 0 ≡ 0) × (get_or states k Empty ≡ Empty))
    ⊎ ((0 < get_or serials k 0) × (get_or serials k 0 ≤ length cells)
    × (get_or cells (get_or serials k 0 - 1) (0, 0) ≡ (k % width, k / width)))

-- the cell of this serial, if any, is of the same group, or of one that is not below the limit
abbrev pub MayTouch : List ℕ → (limit n serial : ℕ) → Type 0
MayTouch groups limit n serial =
    (serial ≡ 0) ⊎ ((get_or groups (serial - 1) 0 ≡ get_or groups n 0)
    ⊎ (limit ≤ get_or groups (serial - 1) 0))

-- so it is for all cells around the listed cell of this number
abbrev pub TouchesWell : List (ℕ × ℕ) → List ℕ → (width : ℕ) → List ℕ → (limit n : ℕ) → Type 0
TouchesWell cells serials width groups limit n =
    (j : ℕ) → j < 3 → (i : ℕ) → i < 3
    → MayTouch groups limit n
    (serial_at serials width (pos ((get_or cells n (0, 0)).0 + i) -ℤ pos 1)
    (pos ((get_or cells n (0, 0)).1 + j) -ℤ pos 1))

-- what the tests give: each cell has one serial, and groups below the limit stand apart
pub record AreSerials (cells : List (ℕ × ℕ)) (states : List State) (serials : List ℕ)
    (width : ℕ) (groups : List ℕ) (limit : ℕ) : Type 0 where
  pub none : (c : ℤ × ℤ) → serial_at serials width c.0 c.1 ≡ 0 → shown states width c.0 c.1 ≡ Empty
  pub some : (c : ℤ × ℤ) (n : ℕ) → serial_at serials width c.0 c.1 ≡ suc n
      → (n < length cells) × (c ≡ listed_cell cells n)
  pub number : (n : ℕ) → n < length cells
      → serial_at serials width (listed_cell cells n).0 (listed_cell cells n).1 ≡ suc n
  pub apart : (n m : ℕ) (d : ℤ × ℤ) → n < length cells → get_or groups n 0 < limit
      → IsNear d (listed_cell cells n) → serial_at serials width d.0 d.1 ≡ suc m
      → (get_or groups m 0 ≡ get_or groups n 0) ⊎ (limit ≤ get_or groups m 0)

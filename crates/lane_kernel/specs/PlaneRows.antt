-- Rows of cells in planes of words. A word column has a word above its first row and one below its last. A plane
-- has a word column more on each side, and a word before and one after all of them, so that each word of a row has words all
-- around it.
use Rattle.std.specs.Prelude.{ℕ, ◌+◌, ◌*◌, ◌<◌, ◌≤◌, ◌≡◌, ◌⊎◌, ℤ, pos, negsuc, ◌+ℤ◌, ◌-ℤ◌, false, List, get_or, map}
use Rattle.std.specs.List.{range_with_len}
use Rattle.ww_rule.specs.declared.pattern.State.TheVariants.{Empty}
use Rattle.ww_rule.specs.Wireworld.{Plane, count_head, next_plane}
use Rattle.lane_kernel.specs.Rows.{is_set, row_state, state_of}

-- how many words a word column of so many rows has, and below, a plane of so many word columns
abbrev pub stride_of : (rows : ℕ) → ℕ
stride_of rows = rows + 2

abbrev pub plane_size : (columns rows : ℕ) → ℕ
plane_size columns rows = (columns + 2) * stride_of rows + 2

-- the place of a word of word column c: the one above the first row for r = 0, row k for r = k + 1, and
-- then the one below the last row
abbrev pub place : (stride c r : ℕ) → ℕ
place stride c r = (c + 1) * stride + 1 + r

-- the words of a plane from west to east, at the r-th place of each word column
abbrev pub row_in_plane : (columns stride : ℕ) → List ℕ → ℕ → List ℕ
row_in_plane columns stride plane r = map (λ c. get_or plane (place stride c r) 0) (range_with_len 0 columns)

-- the word at place i is that of a row in a word column
pub record IsInRow (columns rows i : ℕ) : Type 0 where
  pub column : ℕ
  pub row : ℕ
  pub west : column < columns
  pub above : row < rows
  pub is : i ≡ place (stride_of rows) column (row + 1)

-- the word columns to the west and to the east of a plane's own have no heads
abbrev pub HasDarkSides : (columns stride : ℕ) → List ℕ → Type 0
HasDarkSides columns stride heads =
    (i : ℕ) → (i < stride + 1) ⊎ (place stride columns 0 ≤ i) → get_or heads i 0 ≡ 0

-- a row of heads shows the heads of row y of a plane
abbrev pub ShowsHeads : List ℕ → Plane → ℤ → Type 0
ShowsHeads heads p y =
    (x : ℕ) → count_head (state_of (is_set heads x) false false) ≡ count_head (p (pos x) y)

-- west of its first column a plane is empty
abbrev pub IsEmptyWest : Plane → Type 0
IsEmptyWest p = (x : ℕ) (y : ℤ) → p (negsuc x) y ≡ Empty

-- three planes of words show a plane of cells in their rows, from row y on
abbrev pub PlanesShow : (columns rows stride : ℕ) (heads tails cells : List ℕ) → Plane → ℤ → Type 0
PlanesShow columns rows stride heads tails cells p y =
    (k x : ℕ) → k < rows
    → row_state (row_in_plane columns stride heads (k + 1))
    (row_in_plane columns stride tails (k + 1)) (row_in_plane columns stride cells (k + 1)) x
    ≡ p (pos x) (y +ℤ pos k)

-- `new` are the heads one generation later: where the planes show a plane of cells, between a row of
-- its heads above and one below, they show the next plane with `new` as heads and the heads as tails
abbrev pub IsNextPlane : (stride : ℕ) (heads tails cells new : List ℕ) → Type 0
IsNextPlane stride heads tails cells new =
    (columns rows : ℕ) (p : Plane) (y : ℤ) → stride ≡ stride_of rows
    → IsEmptyWest p → HasDarkSides columns stride heads
    → ShowsHeads (row_in_plane columns stride heads 0) p (y -ℤ pos 1)
    → PlanesShow columns rows stride heads tails cells p y
    → ShowsHeads (row_in_plane columns stride heads (rows + 1)) p (y +ℤ pos rows)
    → PlanesShow columns rows stride new heads cells (next_plane p) y

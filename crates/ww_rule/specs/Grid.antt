-- Boxes of cells in rows, and the planes that they stand for.
use Rattle.std.specs.Prelude.{ℤ, pos, negsuc, ℕ, Bool, false, ◌&&◌, nat_lt, ◌<◌, ◌≡◌, ◌≢◌, ◌*◌, List, [], length, All, get_or}
use Rattle.ww_rule.specs.declared.pattern.State.{State}
use Rattle.ww_rule.specs.declared.pattern.State.TheVariants.{Empty}
use Rattle.ww_rule.specs.Wireworld.{Plane}
use Rattle.lists.specs.Items.{list_at}

-- a box of cells as a value: a `Pattern` without its place in memory
pub record Grid : Type 0 where
  pub width : ℕ
  pub height : ℕ
  pub rows : List (List State)

-- `height` rows of `width` cells each; a box without cells has no rows
pub record IsGrid (width height : ℕ) (rows : List (List State)) : Type 0 where
  pub long : All (λ row. length row ≡ width) rows
  pub many : width * height ≢ 0 → length rows ≡ height
  pub none : width * height ≡ 0 → rows ≡ []

-- rows that are all of one length
abbrev pub AreOfOneLength : List (List State) → Type 0
AreOfOneLength rows = All (λ row. length row ≡ length (list_at rows 0)) rows

-- the state of a cell of a row; past the end cells are empty
abbrev pub row_cell : List State → ℕ → State
row_cell row x = get_or row x Empty

-- the plane of a look-up by column and row, from 0 eastward and from 0 downward; all else is empty
abbrev pub framed : (ℕ → ℕ → State) → Plane
framed look (pos x) (pos y) = look x y
framed look (pos x) (negsuc y) = Empty
framed look (negsuc x) y = Empty

-- The plane of rows of cells: they stand at x from 0 eastward and y from 0 downward, and all other
-- cells are empty. If `IsGrid` holds, the rows are a box of this width and height, and no cell lies
-- outside it.
abbrev pub plane_of : List (List State) → Plane
plane_of rows = framed (λ x y. get_or (get_or rows y []) x Empty)

-- is the cell in the box of so many columns and rows at the origin?
abbrev pub in_box : ℕ → ℕ → ℤ → ℤ → Bool
in_box width height (pos x) (pos y) = nat_lt x width && nat_lt y height
in_box width height (pos x) (negsuc y) = false
in_box width height (negsuc x) y = false

-- the plane is empty outside the box of this width and height
abbrev pub IsEmptyOutside : ℕ → ℕ → Plane → Type 0
IsEmptyOutside width height p = (x y : ℤ) → in_box width height x y ≡ false → p x y ≡ Empty

-- these cells lie in the box of this width and height
abbrev pub AreInBox : ℕ → ℕ → List (ℕ × ℕ) → Type 0
AreInBox width height cells = All (λ cell. (cell.0 < width) × (cell.1 < height)) cells

-- What the rule keeps, and how far a cell sees.
use Rattle.std.specs.Prelude.{ℤ, pos, ◌+ℤ◌, ◌-ℤ◌, ◌≤ℤ◌, ℕ, ◌*◌, ◌<◌, ◌≡◌, ◌≢◌, ◌↔◌, Bool, true, false, List, [], length, get_or}
use Rattle.ww_rule.specs.declared.pattern.State.{State}
use Rattle.ww_rule.specs.declared.pattern.State.TheVariants.{Empty}
use Rattle.ww_rule.specs.declared.pattern.Injection.{Injection}
use Rattle.ww_rule.specs.Wireworld.{Plane, Due, next_plane, evolve, driven, undriven}
use Rattle.ww_rule.specs.Grid.{IsGrid, IsEmptyOutside, in_box, plane_of}
use Rattle.ww_rule.specs.Injections.{due_of_list, due_of_streams}

-- the plane moved by a to the east and by b downward
abbrev pub moved : ℤ → ℤ → Plane → Plane
moved a b p x y = p (x -ℤ a) (y -ℤ b)

-- the plane mirrored from west to east: the columns x and a - x change places
abbrev pub mirrored : ℤ → Plane → Plane
mirrored a p x y = p (a -ℤ x) y

-- two planes agree at every cell within distance n of x, y (n columns and n rows each way)
abbrev pub AgreeNear : ℕ → Plane → Plane → ℤ → ℤ → Type 0
AgreeNear n p q x y =
    (u v : ℤ) → (x -ℤ pos n) ≤ℤ u → u ≤ℤ (x +ℤ pos n) → (y -ℤ pos n) ≤ℤ v → v ≤ℤ (y +ℤ pos n)
    → p u v ≡ q u v

-- the cells that are not empty lie in a box: within `reach` columns and rows of the origin
pub record HasFinitelyManyCells (p : Plane) : Type 0 where
  pub reach : ℕ
  pub west : (x y : ℤ) → p x y ≢ Empty → (pos 0 -ℤ pos reach) ≤ℤ x
  pub east : (x y : ℤ) → p x y ≢ Empty → x ≤ℤ pos reach
  pub north : (x y : ℤ) → p x y ≢ Empty → (pos 0 -ℤ pos reach) ≤ℤ y
  pub south : (x y : ℤ) → p x y ≢ Empty → y ≤ℤ pos reach

-- the rule, and any number of its generations, commute with translations
abbrev pub KeepsTranslations : Type 0
KeepsTranslations =
    ((a b : ℤ) (p : Plane) → next_plane (moved a b p) ≡ moved a b (next_plane p))
    × ((a b : ℤ) (n : ℕ) (p : Plane) → evolve n (moved a b p) ≡ moved a b (evolve n p))

-- the rule, and any number of its generations, commute with mirrors from west to east
abbrev pub KeepsMirrors : Type 0
KeepsMirrors =
    ((a : ℤ) (p : Plane) → next_plane (mirrored a p) ≡ mirrored a (next_plane p))
    × ((a : ℤ) (n : ℕ) (p : Plane) → evolve n (mirrored a p) ≡ mirrored a (evolve n p))

-- a pattern that is not driven evolves by the rule alone
abbrev pub IsUndrivenEvolution : Type 0
IsUndrivenEvolution = (p : Plane) (g : ℕ) → driven undriven p g ≡ evolve g p

-- a cell's next state depends only on the cells within distance 1, and its state after n
-- generations only on those within distance n
abbrev pub IsLocal : Type 0
IsLocal =
    ((p q : Plane) (x y : ℤ) → AgreeNear 1 p q x y → next_plane p x y ≡ next_plane q x y)
    × ((n : ℕ) (p q : Plane) (x y : ℤ) → AgreeNear n p q x y → evolve n p x y ≡ evolve n q x y)

-- the plane of a box of rows is empty outside the box; a plane that is empty outside a box stays
-- so, under the rule and under injections in the box
abbrev pub StaysInBox : Type 0
StaysInBox =
    ((width height : ℕ) (rows : List (List State)) → IsGrid width height rows
    → IsEmptyOutside width height (plane_of rows))
    × ((width height n : ℕ) (p : Plane) → IsEmptyOutside width height p
    → IsEmptyOutside width height (evolve n p))
    × ((width height : ℕ) (due : Due) (p : Plane) → IsEmptyOutside width height p
    → ((g : ℕ) (x y : ℤ) → in_box width height x y ≡ false → due g x y ≡ false)
    → (g : ℕ) → IsEmptyOutside width height (driven due p g))

-- the plane of rows has finitely many cells; a plane with finitely many cells keeps finitely many,
-- also if a list of injections drives it
abbrev pub StaysFinite : Type 0
StaysFinite =
    ((rows : List (List State)) → HasFinitelyManyCells (plane_of rows))
    × ((n : ℕ) (p : Plane) → HasFinitelyManyCells p → HasFinitelyManyCells (evolve n p))
    × ((injections : List Injection) (p : Plane) (g : ℕ) → HasFinitelyManyCells p
    → HasFinitelyManyCells (driven (due_of_list injections) p g))

-- an injection of streams: the bit of an input is 1 in a cycle, and the input's cell is made a head
-- at generation cycle * period
pub record IsBitOfStreams (period : ℕ) (cells : List (ℕ × ℕ)) (rows : List (List Bool)) (g : ℕ)
    (x y : ℤ) : Type 0 where
  pub cycle : ℕ
  pub input : ℕ
  pub in_time : cycle * period ≡ g
  pub in_cells : input < length cells
  pub one : get_or (get_or rows cycle []) input false ≡ true
  pub column : pos (get_or cells input (0, 0)).0 ≡ x
  pub line : pos (get_or cells input (0, 0)).1 ≡ y

-- streams make due exactly their bits that are 1
abbrev pub StreamsAreInjected : Type 0
StreamsAreInjected =
    (period : ℕ) (cells : List (ℕ × ℕ)) (rows : List (List Bool)) (g : ℕ) (x y : ℤ)
    → (due_of_streams period cells rows g x y ≡ true) ↔ IsBitOfStreams period cells rows g x y

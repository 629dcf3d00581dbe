-- One band: its field, and its own injections.
use Rattle.ww_rule.specs.Due.{AreLeftAt, due_count}
use Rattle.std.specs.Prelude.{pos, ◌+ℤ◌, ◌-ℤ◌, ℕ, ◌+◌, ◌-◌, ◌/◌, ◌≤◌, ◌<◌, ◌≡◌, true, false, List, ◌∷◌, length, get_or, map, drop, All, min, ◌*◌, ◌^◌, None}
use Rattle.ww_rule.specs.declared.pattern.Injection.{Injection}
use Rattle.ww_rule.specs.Wireworld.{Plane, Due, count_head, next_plane, injected}
use Rattle.ww_rule.specs.Grid.{IsEmptyOutside}
use Rattle.ww_rule.specs.Injections.{due_of_list}
use Rattle.ww_rule.specs.declared.pattern.State.TheVariants.{Head, Tail}
use Rattle.lane_kernel.specs.Rows.{is_set}
use Rattle.band_rows.specs.declared.field.Field.{Field}
use Rattle.band_rows.specs.Fields.{IsClosedField, IsDarkField, ShowsField, TailsShow}
use Rattle.facing_rows.specs.Facing.{shown_heads}
use Rattle.band_core.specs.declared.band.Band.{Band}
use Rattle.band_core.specs.Bands.{bands_in, unready_neighbour}

-- planes that follow the driven rule, and are empty outside a box
pub record IsEvolution (e : ℕ → Plane) (due : Due) (width rows : ℕ) : Type 0 where
  pub next : (g : ℕ) → e (g + 1) ≡ injected (due (g + 1)) (next_plane (e g))
  pub empty : (g : ℕ) → IsEmptyOutside width rows (e g)

-- the cells of injections
abbrev pub injected_cells : List Injection → List (ℕ × ℕ)
injected_cells injections = map (λ i. (i.x, i.y)) injections

-- the injections are at cells of `many` rows from row y on, within so many word columns
abbrev pub AreInRows : (columns y many : ℕ) → List Injection → Type 0
AreInRows columns y many injections =
    All (λ i. (y ≤ i.y) × (i.y < y + many) × (i.x / 64 < columns)) injections

-- a band of `many` rows, from row y on, in so many word columns
pub record IsBand (columns y many : ℕ) (band : Band) : Type 0 where
  pub closed : IsClosedField band.field
  pub wide : band.field.columns ≡ columns
  pub high : band.field.rows ≡ many
  pub some : 0 < many
  pub inside : AreInRows columns y many band.injections.items
  pub done : band.done ≤ length band.injections.items

-- in rows from row y on, the injections are due where the test `due` holds
abbrev pub AreDueIn : List Injection → Due → (y many : ℕ) → Type 0
AreDueIn injections due y many =
    (g x k : ℕ) → k < many → due_of_list injections g (pos x) (pos y +ℤ pos k) ≡ due g (pos x)
    (pos y +ℤ pos k)

-- The band shows an evolution from row y on: its field shows the cells at its generation, and its
-- tails the heads one generation ago. The injections that are left are those of later generations.
pub record ShowsBand (e : ℕ → Plane) (due : Due) (y many : ℕ) (band : Band) : Type 0 where
  pub cells : ShowsField band.field (e band.generation) (pos y)
  pub before : (g : ℕ) → band.generation ≡ g + 1 → TailsShow band.field (e g) (pos y)
  pub own : AreDueIn band.injections.items due y many
  pub left : AreLeftAt (band.generation + 1) band.injections.items
      (drop band.done band.injections.items)

-- the heads of the bottom row, and below, of the top row, at the band's generation or the one
-- before
abbrev pub bottom_at : ℕ → Band → List ℕ
bottom_at g band = shown_heads g band.generation band.field band.field.rows

abbrev pub top_at : ℕ → Band → List ℕ
top_at g band = shown_heads g band.generation band.field 1

-- the number of rows of band b, if bands of a height cover so many rows
abbrev pub rows_in_band : (height rows b : ℕ) → ℕ
rows_in_band height rows b = min height (rows - b * height)

-- the bands are all the bands of a height over so many rows
pub record AreBands (columns height rows : ℕ) (bands : List Band) : Type 0 where
  pub many : length bands ≡ bands_in rows height
  pub each : (b : ℕ) (d : Band) → b < length bands
      → IsBand columns (b * height) (rows_in_band height rows b) (get_or bands b d)

-- the bands show an evolution, each at its own generation
abbrev pub AllShow : (e : ℕ → Plane) (due : Due) (height rows : ℕ) → List Band → Type 0
AllShow e due height rows bands =
    (b : ℕ) (d : Band) → b < length bands
    → ShowsBand e due (b * height) (rows_in_band height rows b) (get_or bands b d)

abbrev pub generations_of : List Band → List ℕ
generations_of bands = map (λ band. band.generation) bands

-- the generation of band b
abbrev pub generation_at : List Band → ℕ → ℕ
generation_at bands b = get_or (generations_of bands) b 0

-- no cell of a field from row y on is lit, nor one of the rows beside it; the row above is not
-- looked at if y is 0
pub record AreUnlit (field : Field) (y : ℕ) (up down : List ℕ) : Type 0 where
  pub cells : IsDarkField field
  pub above : (x : ℕ) → 0 < y → is_set up x ≡ false
  pub below : (x : ℕ) → is_set down x ≡ false

-- the first injection that is left is at this cell, and is due at the next generation
pub record IsNextDue (band : Band) (x y : ℕ) : Type 0 where
  pub injection : Injection
  pub rest : List Injection
  pub first : drop band.done band.injections.items ≡ injection ∷ rest
  pub in_time : injection.generation ≡ band.generation + 1
  pub column : injection.x ≡ x
  pub row : injection.y ≡ y

-- In rows from row y on nothing can change: they have no head and follow the rule as they are, no
-- head lies beside them, and no injection is due in them next.
pub record IsQuiet (e : ℕ → Plane) (due : Due) (g y many : ℕ) : Type 0 where
  pub still : (x k : ℕ) → k < many → next_plane (e g) (pos x) (pos y +ℤ pos k) ≡ e g (pos x)
      (pos y +ℤ pos k)
  pub dark : (x k : ℕ) → k < many → count_head (e g (pos x) (pos y +ℤ pos k)) ≡ 0
  pub above : (x : ℕ) → count_head (e g (pos x) (pos y -ℤ pos 1)) ≡ 0
  pub below : (x : ℕ) → count_head (e g (pos x) (pos y +ℤ pos many)) ≡ 0
  pub none : (x k : ℕ) → k < many → due (g + 1) (pos x) (pos y +ℤ pos k) ≡ false

-- the cell is lit in rows from row y on, is a head beside them, or has an injection in them that is
-- due next
pub data IsWaking (e : ℕ → Plane) (due : Due) (g y many x z : ℕ) : Type 0 where
  head : y ≤ z → z < y + many → e g (pos x) (pos z) ≡ Head → IsWaking e due g y many x z
  tail : y ≤ z → z < y + many → e g (pos x) (pos z) ≡ Tail → IsWaking e due g y many x z
  above : z + 1 ≡ y → e g (pos x) (pos z) ≡ Head → IsWaking e due g y many x z
  below : z ≡ y + many → e g (pos x) (pos z) ≡ Head → IsWaking e due g y many x z
  due : y ≤ z → z < y + many → due (g + 1) (pos x) (pos z) ≡ true → IsWaking e due g y many x z

-- none of a band's injections is due at its next generation
abbrev pub HasNoneDue : Band → Type 0
HasNoneDue band = due_count (band.generation + 1) (drop band.done band.injections.items) ≡ 0

-- band b of bands of a height over so many rows can move on: its neighbours are ready
pub record CanMove (columns height rows : ℕ) (bands : List Band) (b : ℕ) : Type 0 where
  pub inside : b < length bands
  pub room : generation_at bands b + 1 < 2 ^ 64
  pub ready : unready_neighbour (generations_of bands) b ≡ None
  pub are : AreBands columns height rows bands

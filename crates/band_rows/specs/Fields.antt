-- Rows of cells in three planes of words, with marks of the words that may change.
use Rattle.std.specs.Prelude.{ℤ, pos, ◌+ℤ◌, ◌-ℤ◌, ℕ, ◌+◌, ◌*◌, ◌/◌, ◌<◌, ◌≤◌, ◌≡◌, ◌≢◌, ◌⊎◌, false, List, [], length, get_or}
use Rattle.ww_rule.specs.declared.pattern.State.{State}
use Rattle.ww_rule.specs.declared.pattern.State.TheVariants.{Empty, Head, Tail}
use Rattle.ww_rule.specs.Wireworld.{Plane, next_plane}
use Rattle.lane_kernel.specs.Rows.{is_set, row_state}
use Rattle.lane_kernel.specs.Around.{next_word}
use Rattle.lane_kernel.specs.Marked.{AreCleared, AreListed, AreOn, IsMarked}
use Rattle.lane_kernel.specs.PlaneRows.{place, row_in_plane, plane_size, stride_of, IsInRow, PlanesShow, IsEmptyWest, ShowsHeads}
use Rattle.lane_kernel.specs.declared.free_cells.Free.{Free}
use Rattle.band_rows.specs.declared.field.Field.{Field}
use Rattle.band_rows.specs.declared.field.WordMarks.{WordMarks}
use Rattle.band_rows.specs.RowsPut.{HasRowPut}

-- The planes and the bytes have their sizes. Cells lie in rows. Unless the list is full, the marks
-- promise what `IsMarked` says. The marks of the next generation are cleared.
pub record IsPlaneField (field : Field) : Type 0 where
  pub stride : field.stride ≡ stride_of field.rows
  pub long_heads : length field.heads.items ≡ plane_size field.columns field.rows
  pub long_tails : length field.tails.items ≡ plane_size field.columns field.rows
  pub long_cells : length field.cells.items ≡ plane_size field.columns field.rows
  pub long_marks : length field.marks.bytes.items ≡ plane_size field.columns field.rows
  pub long_spare : length field.spare.bytes.items ≡ plane_size field.columns field.rows
  pub cells_in_rows : (i : ℕ) → get_or field.cells.items i 0 ≢ 0
      → IsInRow field.columns field.rows i
  pub listed : AreListed field.stride
      field.marks.bytes.items field.marks.list.items field.marks.many
  pub marked : field.marks.many < length field.marks.list.items
      → IsMarked field.stride
      field.heads.items field.tails.items field.cells.items field.marks.bytes.items
  pub cleared : AreCleared field.spare.bytes.items

-- marks of the words of a plane with these heads; unless their list is full, they promise what
-- `IsMarked` says
pub record AreMarksOf (free : Free) (heads : List ℕ) (marks : WordMarks) : Type 0 where
  pub long : length marks.bytes.items ≡ length free.cells.now
  pub listed : AreListed free.stride marks.bytes.items marks.list.items marks.many
  pub marked : marks.many < length marks.list.items
      → IsMarked free.stride heads free.tails.now free.cells.now marks.bytes.items

-- a field without heads of other fields beside it: heads and tails lie on its cells
pub record IsClosedField (field : Field) : Type 0 where
  pub is : IsPlaneField field
  pub heads : AreOn field.cells.items field.heads.items
  pub tails : AreOn field.cells.items field.tails.items

-- two fields of one size
pub record AreOfOneSize (old new : Field) : Type 0 where
  pub columns : new.columns ≡ old.columns
  pub rows : new.rows ≡ old.rows
  pub stride : new.stride ≡ old.stride

-- a field one generation later
pub record IsFieldStepped (old new : Field) : Type 0 where
  pub is : IsPlaneField new
  pub size : AreOfOneSize old new
  pub cells : new.cells.items ≡ old.cells.items
  pub tails : new.tails.items ≡ old.heads.items
  pub heads : (i : ℕ) → get_or new.heads.items i 0
      ≡ next_word old.stride old.heads.items old.tails.items old.cells.items i

-- the r-th words of a field's heads from west to east (r = 0 above the first row), and below, those
-- of its tails
abbrev pub field_heads : Field → ℕ → List ℕ
field_heads field r = row_in_plane field.columns field.stride field.heads.items r

abbrev pub field_tails : Field → ℕ → List ℕ
field_tails field r = row_in_plane field.columns field.stride field.tails.items r

-- the state of the cell of column x in row k
abbrev pub field_state : Field → (x k : ℕ) → State
field_state field x k =
    row_state (field_heads field (k + 1)) (field_tails field (k + 1))
    (row_in_plane field.columns field.stride field.cells.items (k + 1)) x

-- a field shows a plane from row y on; its tails show the heads of a plane there
abbrev pub ShowsField : Field → Plane → ℤ → Type 0
ShowsField field p y =
    PlanesShow field.columns field.rows field.stride
    field.heads.items field.tails.items field.cells.items p y

abbrev pub TailsShow : Field → Plane → ℤ → Type 0
TailsShow field p y =
    (k : ℕ) → k < field.rows → ShowsHeads (field_tails field (k + 1)) p (y +ℤ pos k)

-- no cell of a field's rows is a head or a tail
pub record IsDarkField (field : Field) : Type 0 where
  pub heads : (k x : ℕ) → k < field.rows → is_set (field_heads field (k + 1)) x ≡ false
  pub tails : (k x : ℕ) → k < field.rows → is_set (field_tails field (k + 1)) x ≡ false

-- the cell of column x in row k is a head or a tail
pub record IsLitInField (field : Field) (x k : ℕ) : Type 0 where
  pub column : x / 64 < field.columns
  pub row : k < field.rows
  pub lit : (field_state field x k ≡ Head) ⊎ (field_state field x k ≡ Tail)

-- For n generations planes follow the rule in so many rows from row y on, and have no heads in the
-- rows beside these.
pub record GoOnAlone (e : ℕ → Plane) (y : ℤ) (rows n : ℕ) : Type 0 where
  pub next : (g x k : ℕ) → g < n → k < rows
      → e (g + 1) (pos x) (y +ℤ pos k) ≡ next_plane (e g) (pos x) (y +ℤ pos k)
  pub west : (g : ℕ) → g < n → IsEmptyWest (e g)
  pub above : (g : ℕ) → g < n → ShowsHeads [] (e g) (y -ℤ pos 1)
  pub below : (g : ℕ) → g < n → ShowsHeads [] (e g) (y +ℤ pos rows)

-- n generations have passed in a field with no heads beside it
pub record HasRunAlone (n : ℕ) (old new : Field) : Type 0 where
  pub closed : IsClosedField new
  pub size : AreOfOneSize old new
  pub shows : (e : ℕ → Plane) (y : ℤ) → GoOnAlone e y old.rows n → ShowsField old (e 0) y
      → ShowsField new (e n) y
  pub tails : (e : ℕ → Plane) (y : ℤ) (g : ℕ) → n ≡ g + 1 → GoOnAlone e y old.rows n
      → ShowsField old (e 0) y → TailsShow new (e g) y

-- a field whose heads and tails, and whose marks and spare marks, are exchanged
abbrev pub crossed : Field → Field
crossed field =
    record field {
      heads = field.tails;
      tails = field.heads;
      marks = field.spare;
      spare = field.marks;
    }

-- r is the place above the first of so many rows, or the one below the last
abbrev pub IsBesideRows : (rows r : ℕ) → Type 0
IsBesideRows rows r = (r ≡ 0) ⊎ (r ≡ rows + 1)

-- a field that has taken over words of heads into the r-th places of its word columns
pub record HasTaken (words : List ℕ) (r : ℕ) (old new : Field) : Type 0 where
  pub is : IsPlaneField new
  pub size : AreOfOneSize old new
  pub cells : new.cells.items ≡ old.cells.items
  pub tails : new.tails.items ≡ old.tails.items
  pub heads : HasRowPut old.stride r (length words) (λ c. get_or words c 0)
      old.heads.items new.heads.items

-- a field that has no tails any more in the r-th words of so many word columns
pub record HasForgotten (columns r : ℕ) (old new : Field) : Type 0 where
  pub is : IsPlaneField new
  pub size : AreOfOneSize old new
  pub cells : new.cells.items ≡ old.cells.items
  pub heads : new.heads.items ≡ old.heads.items
  pub tails : HasRowPut old.stride r columns (λ c. 0) old.tails.items new.tails.items

-- a field that has gone on by one generation between two rows of heads
pub record HasSteppedBetween (above below : List ℕ) (old new : Field) : Type 0 where
  pub closed : IsClosedField new
  pub size : AreOfOneSize old new
  pub tails : (p : Plane) (y : ℤ) → ShowsField old p y → TailsShow new p y
  pub shows : (p : Plane) (y : ℤ) → IsEmptyWest p → ShowsHeads above p (y -ℤ pos 1)
      → ShowsField old p y → ShowsHeads below p (y +ℤ pos old.rows)
      → ShowsField new (next_plane p) y

-- the marks have no list, or a full one
abbrev pub IsUnlisted : Field → Type 0
IsUnlisted field = length field.marks.list.items ≤ field.marks.many

-- a field of this size without cells, and without a list of marks
pub record IsBlank (across down : ℕ) (field : Field) : Type 0 where
  pub closed : IsClosedField field
  pub unlisted : IsUnlisted field
  pub columns : field.columns ≡ across
  pub rows : field.rows ≡ down
  pub empty : (x k : ℕ) → k < field.rows → field_state field x k ≡ Empty

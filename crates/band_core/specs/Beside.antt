-- Rows of heads beside a band.
use Rattle.std.specs.Prelude.{ℤ, pos, ◌+ℤ◌, ◌-ℤ◌, ℕ, ◌-◌, ◌<◌, ◌≤◌, ◌≡◌, List, [], length, get_or}
use Rattle.ww_rule.specs.Wireworld.{Plane}
use Rattle.band_rows.specs.declared.plane_row.FacingRows.{FacingRows}
use Rattle.band_rows.specs.Facing.{words_in}
use Rattle.band_rows.specs.Fields.{IsPlaneField}
use Rattle.lane_kernel.specs.PlaneRows.{ShowsHeads}
use Rattle.band_core.specs.declared.band.Band.{Band}
use Rattle.band_core.specs.Band.{bottom_at, top_at}

-- a band whose field has its form, and has rows
pub record HasRows (band : Band) : Type 0 where
  pub is : IsPlaneField band.field
  pub some : 0 < band.field.rows

-- the rows beside `many` rows from row y on show the heads of a plane
pub record ShowBeside (facing : FacingRows) (p : Plane) (y : ℤ) (many : ℕ) : Type 0 where
  pub above : ShowsHeads (words_in facing.above) p (y -ℤ pos 1)
  pub below : ShowsHeads (words_in facing.below) p (y +ℤ pos many)

-- the heads of the last row of bands at a generation, or none if there is no band
pub record IsRowAbove (before : List Band) (g : ℕ) (up : List ℕ) : Type 0 where
  pub first : length before ≡ 0 → up ≡ []
  pub later : (d : Band) → 0 < length before
      → up ≡ bottom_at g (get_or before (length before - 1) d)

-- the heads of the first row of bands at a generation, or none if there is no band
pub record IsRowBelow (after : List Band) (g : ℕ) (down : List ℕ) : Type 0 where
  pub last : length after ≡ 0 → down ≡ []
  pub earlier : (d : Band) → 0 < length after → down ≡ top_at g (get_or after 0 d)

-- the bands before and after a band have rows, in no more than so many word columns
pub record HaveRows (before after : List Band) (g columns : ℕ) : Type 0 where
  pub some_above : (d : Band) → 0 < length before
      → HasRows (get_or before (length before - 1) d)
  pub some_below : (d : Band) → 0 < length after → HasRows (get_or after 0 d)
  pub long_above : (up : List ℕ) → IsRowAbove before g up → length up ≤ columns
  pub long_below : (down : List ℕ) → IsRowBelow after g down → length down ≤ columns

-- the rows of those bands that lie beside `many` rows from row y on show the heads of a plane
pub record ShowRowsOf (before after : List Band) (g : ℕ) (p : Plane) (y : ℤ) (many : ℕ) : Type 0
  where
    pub above : (up : List ℕ) → IsRowAbove before g up → ShowsHeads up p (y -ℤ pos 1)
    pub below : (down : List ℕ) → IsRowBelow after g down → ShowsHeads down p (y +ℤ pos many)

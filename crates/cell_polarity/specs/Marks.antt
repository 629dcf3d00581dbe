-- Marks at the cells that are among some sources.
use Rattle.std.specs.Prelude.{ℕ, ◌≤◌, ◌≡◌, nat_lt, cond, Bool, true, false, List, length, get_or, count_by, slice_set, Contains}
use Rattle.cell_core.specs.declared.cells.Src.{Src}
use Rattle.cell_core.specs.declared.cells.Src.TheVariants.{Input, Latch, One, Zero, Cell as Made}
use Rattle.cell_polarity.specs.Low.{zero_in}

-- the marks after the source is marked, if it is a cell
abbrev pub marks_with : List Bool → Src → List Bool
marks_with marks (Input i) = marks
marks_with marks (Latch i) = marks
marks_with marks One = marks
marks_with marks Zero = marks
marks_with marks (Made i) = cond (nat_lt i (length marks)) (slice_set marks i true) marks

-- the marks are set at the cells among the sources that have a flag, and nowhere else
pub record AreMarked (flags : List Bool) (sources : List Src) (marks : List Bool) : Type 0 where
  pub long : length marks ≡ length flags
  pub onto : (i : ℕ) → Contains sources (Made i) → get_or flags i false ≡ true
      → get_or marks i false ≡ true
  pub from : (i : ℕ) → get_or marks i false ≡ true
      → Contains sources (Made i) × (get_or flags i false ≡ true)
  pub few : count_by (λ mark. mark) marks ≤ count_by (zero_in flags) sources

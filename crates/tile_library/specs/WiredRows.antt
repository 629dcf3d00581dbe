-- Which rows of a drawing have conductors.
use Rattle.std.specs.Prelude.{ℕ, pos, ◌<◌, ◌⊎◌, ◌≡◌, false}
use Rattle.tile_core.specs.declared.kind.Kind.{Kind}
use Rattle.tile_library.specs.Drawings.{shipped_drawing}

-- the rows above the first of these, and those below the last, have none
abbrev pub AreWiredRows : Kind → ℕ × ℕ → Type 0
AreWiredRows kind rows =
    (x y : ℕ) → (y < rows.0) ⊎ (rows.1 < y) → shipped_drawing kind (pos x) (pos y) ≡ false

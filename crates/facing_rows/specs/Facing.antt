-- The rows of heads that a field shows its neighbours.
use Rattle.std.specs.Prelude.{ℕ, ◌==◌, if◌then◌else◌, List}
use Rattle.band_rows.specs.declared.field.Field.{Field}
use Rattle.band_rows.specs.Fields.{field_heads, field_tails}

-- the heads of the r-th row of a field, counted from 1, at generation g; the field is at generation
-- `now`, which is g or the one after
abbrev pub shown_heads : (g now : ℕ) → Field → ℕ → List ℕ
shown_heads g now field r = if now == g then field_heads field r else field_tails field r

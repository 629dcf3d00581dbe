-- What stands around a wire's cell.
use Rattle.std.specs.Prelude.{pos, ℕ, suc, ◌+◌, ◌≡◌, ◌⊎◌}
use Rattle.route_tables.specs.declared.tables.TableWire.{TableWire}
use Rattle.route_tables.specs.declared.tables.Tables.{Tables}
use Rattle.route_tables.specs.Tables.{wire_path, serial}
use Rattle.route_tables.specs.declared.alone.PathSerials.{PathSerials}

-- these are the serials of three cells of a wire's path, from a place on, and the second cell
pub record ArePathSerials (t : Tables) (wire : TableWire) (i : ℕ) (serials : PathSerials) : Type 0 where
  pub cell_is : (pos serials.cell.0, pos serials.cell.1) ≡ wire_path t wire (suc i)
  pub first : serials.before ≡ serial t (wire_path t wire i)
  pub second : serials.here ≡ serial t (wire_path t wire (i + 1))
  pub third : serials.after ≡ serial t (wire_path t wire (i + 2))

-- no cell's serial, or one of three
abbrev pub IsOneOf : PathSerials → (serial : ℕ) → Type 0
IsOneOf serials serial =
    (serial ≡ 0) ⊎ ((serial ≡ serials.before) ⊎ ((serial ≡ serials.here) ⊎ (serial ≡ serials.after)))

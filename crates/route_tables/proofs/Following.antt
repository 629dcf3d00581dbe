-- The surroundings of wires' cells, place by place.
use Rattle.std.proofs.Common.{ℤ, pos, ◌-ℤ◌, ℕ, ◌+◌, ◌<◌, ◌≡◌, sym, ap, ap₂, ◌∙◌, subst, inl, inr, arith}
use Rattle.std.specs.Prelude.{◌⊎◌}
use Rattle.gate_laws.specs.Wires.{IsNear}
use Rattle.route_tables.specs.declared.tables.TableWire.{TableWire}
use Rattle.route_tables.specs.declared.tables.Tables.{Tables}
use Rattle.route_tables.specs.Tables.{wire_path, serial}
use Rattle.route_tables.specs.Cells.{IsAlone}
use Rattle.route_tables.specs.declared.alone.PathSerials.{PathSerials}
use Rattle.route_tables.specs.Around.{IsOneOf, ArePathSerials}
use Rattle.route_tables.proofs.SerialTable.{near_index}

on_path : (t : Tables) (wire : TableWire) (i : ℕ) (serials : PathSerials) → ArePathSerials t wire i serials → (k : ℕ) → IsOneOf serials k → (k ≡ 0) ⊎ ((j : ℕ) × (j < 3) × (k ≡ serial t (wire_path t wire (i + j))))
on_path t wire i serials are k (inl none) = inl none
on_path t wire i serials are k (inr (inl before)) =
    let none : i ≡ i + 0 = omega arith in inr (0, omega arith, before ∙ are.first ∙ ap (λ n. serial t (wire_path t wire n)) none)
on_path t wire i serials are k (inr (inr (inl here))) = inr (1, omega arith, here ∙ are.second)
on_path t wire i serials are k (inr (inr (inr after))) = inr (2, omega arith, after ∙ are.third)

pub alone : (t : Tables) (wire : TableWire) (i : ℕ) (serials : PathSerials) → ArePathSerials t wire i serials → ((j : ℕ) → j < 3 → (k : ℕ) → k < 3 → IsOneOf serials (serial t (pos (serials.cell.0 + k) -ℤ pos 1, pos (serials.cell.1 + j) -ℤ pos 1))) → IsAlone t wire i
alone t wire i serials are around cell near =
    let beside : IsNear cell (pos serials.cell.0, pos serials.cell.1) = subst (IsNear cell) (sym are.cell_is) near in
    let (k, few, x) = near_index serials.cell.0 cell.0 beside.west beside.east in
    let (j, few', y) = near_index serials.cell.1 cell.1 beside.north beside.south in
    let one : IsOneOf serials (serial t cell) = subst (λ c. IsOneOf serials (serial t c)) (sym (ap₂ (λ (a b : ℤ). (a, b)) x y)) (around j few' k few) in
    on_path t wire i serials are (serial t cell) one

-- The border of a slice that has the length of a kind's box.
use Rattle.std.proofs.Common.{ℤ, pos, negsuc, ℕ, ◌+◌, ◌*◌, ◌/◌, ◌%◌, ◌<◌, ◌≡◌, ◌↔◌, sym, ap, ap₂, ◌∙◌, Bool, true, List, length, ◌++◌, arith, inl, inr, IsTrue, lit<}
use Rattle.std.proofs.lemmas.Bool.{true≢false, cases_lt, lt-ltb, and_from}
use Rattle.std.proofs.lemmas.List.{get_or_past}
use Rattle.std.proofs.lemmas.Nat.{mod-mul-add, div-mul-add}
use Rattle.ww_rule.specs.declared.pattern.State.{State}
use Rattle.ww_rule.specs.declared.pattern.State.TheVariants.{Empty}
use Rattle.tile_core.specs.declared.kind.Kind.{Kind}
use Rattle.tile_core.specs.Drawing.{is_cell_of}
use Rattle.tile_core.specs.Interface.{entry_cells, exit_cells, is_in_box, is_on_border}
use Rattle.tile_core.specs.Kinds.{lanes, interface}
use Rattle.tile_core.specs.TimingLaw.{HasPorts}
use Rattle.tile_timing.specs.Law.{drawing_of, is_filled, AreDrawn, IsBorderClear}
use Rattle.tile_timing.proofs.Windows.{at_place, beside, shown_at}

-- a cell that is not empty has a column and a place in the slice
filled_inside : (cells : List State) (x y : ℕ) → drawing_of cells (pos x) (pos y) ≡ true → (x < 32) × (y * 32 + x < length cells)
filled_inside cells x y e =
    elim (cases_lt x 32) [
      | inr off ↦ absurd (true≢false (sym e ∙ ap is_filled (beside cells 32 x y off)))
      | inl within ↦
          elim (cases_lt (y * 32 + x) (length cells)) [
            | inr off ↦ absurd (true≢false (sym e ∙ ap is_filled (at_place cells 32 x y within ∙ get_or_past cells (y * 32 + x) Empty off)))
            | inl inside ↦ (within, inside)
          ]
    ]

pub in_box : (kind : Kind) (cells : List State) → length cells ≡ 512 * lanes kind → (x y : ℤ) → drawing_of cells x y ≡ true → is_in_box (interface kind) x y ≡ true
in_box kind cells size (pos x) (pos y) e =
    let inside = filled_inside cells x y e in
    let row : y < 16 * lanes kind = omega (arith, inside.1) in
    and_from _ _ (lt-ltb x 32 inside.0) (lt-ltb y (16 * lanes kind) row)
in_box kind cells size (pos x) (negsuc y) e = absurd (true≢false (sym e))
in_box kind cells size (negsuc x) y e = absurd (true≢false (sym e))

-- the border is clear, cell by cell of the slice and cell by cell of the plane
border_clear : (kind : Kind) (cells : List State) → IsBorderClear kind cells → (x y : ℤ) → is_on_border (interface kind) x y ≡ true → drawing_of cells x y ≡ true → is_cell_of x y (entry_cells (interface kind) ++ exit_cells (interface kind)) ≡ true
border_clear kind cells clear (pos x) (pos y) on e =
    let inside = filled_inside cells x y e in
    let k = y * 32 + x in
    let column : k % 32 ≡ x = mod-mul-add y 32 x inside.0 in
    let row : k / 32 ≡ y = div-mul-add y 32 x inside.0 in
    let port = clear k inside.1 (ap₂ (λ u v. is_on_border (interface kind) (pos u) (pos v)) column row ∙ on) (ap is_filled (sym (at_place cells 32 x y inside.0)) ∙ e) in
    ap₂ (λ u v. is_cell_of (pos u) (pos v) (entry_cells (interface kind) ++ exit_cells (interface kind))) (sym column) (sym row) ∙ port
border_clear kind cells clear (pos x) (negsuc y) on e = absurd (true≢false (sym e))
border_clear kind cells clear (negsuc x) y on e = absurd (true≢false (sym e))

cells_clear : (kind : Kind) (cells : List State) → HasPorts (interface kind) (drawing_of cells) → IsBorderClear kind cells
cells_clear kind cells ports k lt on e =
    ports.border (pos (k % 32)) (pos (k / 32)) on (ap is_filled (shown_at cells 32 k (lit< tt)) ∙ e)

-- the ports of a slice, by its border and its ports' cells
pub ports_by_border : (kind : Kind) (cells : List State) (r : Bool) → length cells ≡ 512 * lanes kind → AreDrawn (entry_cells (interface kind)) (drawing_of cells) → AreDrawn (exit_cells (interface kind)) (drawing_of cells) → IsTrue r ↔ IsBorderClear kind cells → IsTrue r ↔ HasPorts (interface kind) (drawing_of cells)
ports_by_border kind cells r size entries exits says = (
  λ t. record { in_box = in_box kind cells size; has_entries = entries; has_exits = exits; border = border_clear kind cells (says.0 t) },
  λ ports. says.1 (cells_clear kind cells ports),
)

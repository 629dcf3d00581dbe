-- Runs of equal cells: in a tile, in a block, in a row of the plane.
use Rattle.std.proofs.Common.{◌≡◌, ◌∙◌, ap, ap₂, sym, pos, ℕ, ◌+◌, ◌-◌, ◌≤◌, ◌/◌, ◌%◌, arith}
use Rattle.ww_rule.specs.declared.pattern.State.{State}
use Rattle.tile_library.specs.Drawings.{shipped_drawing}
use Rattle.tiling.specs.Tiling.{Lit, Slot, Tiling, drawn, drawn_slot}
use Rattle.tile_library.specs.RowRuns.{IsRowRun}

-- a cell is a run
pub one_cell : (row : ℕ → State) (x limit : ℕ) (state : State) → 1 ≤ limit → state ≡ row x → IsRowRun row x limit (state, 1)
one_cell row x limit state some is = record {
  some = omega arith;
  within = some;
  alike = λ i lt. (let here : x + i ≡ x = omega arith in ap row here ∙ sym is);
}

-- a run of a block's row is one of the plane's row
pub in_plane : (tiling : Tiling) (lit : Lit) (slot : Slot) (x y limit count : ℕ) (state : State)
    → slot ≡ tiling (x / 32) (y / 16)
    → IsRowRun (λ k. drawn_slot shipped_drawing lit (x / 32) (y / 16) slot k (y % 16)) (x % 32) (32 - x % 32) (state, count)
    → (n : ℕ) → 1 ≤ n → n ≤ count → n ≤ limit
    → IsRowRun (λ k. drawn shipped_drawing tiling lit (pos k) (pos y)) x limit (state, n)
in_plane tiling lit slot x y limit count state e run n some few within = record {
  some = some;
  within = within;
  alike = λ i lt. (
      let q : (x + i) / 32 ≡ x / 32 = omega (arith, run.within) in
      let p : (x + i) % 32 ≡ x % 32 + i = omega (arith, run.within) in
      ap₂ (λ column place. drawn_slot shipped_drawing lit column (y / 16) (tiling column (y / 16)) place (y % 16)) q p
      ∙ ap (λ s. drawn_slot shipped_drawing lit (x / 32) (y / 16) s (x % 32 + i) (y % 16)) (sym e)
      ∙ run.alike i (omega arith));
}

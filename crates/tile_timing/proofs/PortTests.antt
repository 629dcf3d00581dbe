-- The ports and the border of a drawing, by tests that compute.
use Rattle.std.proofs.Common.{ℤ, pos, negsuc, ℕ, zero, suc, ◌*◌, ◌<◌, ◌≡◌, sym, ap, ◌∙◌, Bool, true, false, ◌||◌, ◌&&◌, not, ◌++◌, arith, inl, inr}
use Rattle.std.proofs.lemmas.Bool.{and_parts, true≢false, cases_lt, ltb-true}
use Rattle.tile_core.specs.Drawing.{is_cell_of, Drawing}
use Rattle.tile_core.specs.Interface.{Interface, entry_cells, exit_cells, is_in_box, is_on_border}
use Rattle.tile_core.specs.TimingLaw.{HasPorts}
use Rattle.tile_timing.proofs.Traces.{all_drawn, all_drawn-says}

-- the test holds of each number below n
abbrev pub below : (ℕ → Bool) → ℕ → Bool
below f zero = true
below f (suc n) = f n && below f n

below-says : (f : ℕ → Bool) (n k : ℕ) → below f n ≡ true → k < n → f k ≡ true
below-says f zero k t lt = absurd (omega arith)
below-says f (suc n) k t lt =
    elim (cases_lt k n) [
      | inl less ↦ below-says f n k (and_parts (f n) (below f n) t).1 less
      | inr more ↦ let e : k ≡ n = omega arith in ap f e ∙ (and_parts (f n) (below f n) t).0
    ]

-- a cell on the border that is no port is empty
abbrev pub is_clear : Interface → Drawing → ℕ → ℕ → Bool
is_clear tile drawing y x =
    not (is_on_border tile (pos x) (pos y) && drawing (pos x) (pos y)) || is_cell_of (pos x) (pos y) (entry_cells tile ++ exit_cells tile)

abbrev pub ports_test : Interface → Drawing → Bool
ports_test tile drawing =
    all_drawn drawing (entry_cells tile)
    && all_drawn drawing (exit_cells tile)
    && below (λ y. below (is_clear tile drawing y) 32) (16 * tile.lanes)

port_if : (e w p : Bool) → (not (e && w) || p) ≡ true → e ≡ true → w ≡ true → p ≡ true
port_if true true p t h k = t
port_if true false p t h k = absurd (true≢false (sym k))
port_if false w p t h k = absurd (true≢false (sym h))

border : (tile : Interface) (drawing : Drawing) → below (λ y. below (is_clear tile drawing y) 32) (16 * tile.lanes) ≡ true → (x y : ℤ) → is_on_border tile x y ≡ true → drawing x y ≡ true → is_cell_of x y (entry_cells tile ++ exit_cells tile) ≡ true
border tile drawing t (pos x) (pos y) on e =
    let box = and_parts _ _ (and_parts _ _ on).0 in
    port_if _ _ _ (below-says (is_clear tile drawing y) 32 x (below-says (λ y. below (is_clear tile drawing y) 32) (16 * tile.lanes) y t (ltb-true y _ box.1)) (ltb-true x 32 box.0)) on e
border tile drawing t (pos x) (negsuc y) on e = absurd (true≢false (sym on))
border tile drawing t (negsuc x) y on e = absurd (true≢false (sym on))

-- a drawing in its box that passes the test has its ports, and no other cell on the border
pub has_ports : (tile : Interface) (drawing : Drawing) → ((x y : ℤ) → drawing x y ≡ true → is_in_box tile x y ≡ true) → ports_test tile drawing ≡ true → HasPorts tile drawing
has_ports tile drawing inside t =
    let outer = and_parts _ _ t in
    let inner = and_parts _ _ outer.0 in
    record {
      in_box = inside;
      has_entries = λ x y e. all_drawn-says drawing (entry_cells tile) x y inner.0 e;
      has_exits = λ x y e. all_drawn-says drawing (exit_cells tile) x y inner.1 e;
      border = border tile drawing outer.1;
    }

-- The timing law: what a drawing does, alone on the plane, in the 32 generations after its entries
-- are lit.
use Rattle.std.specs.Prelude.{ℤ, ℕ, ◌≤◌, ◌≡◌, ◌≢◌, ◌↔◌, Bool, true, [], ◌++◌}
use Rattle.ww_rule.specs.declared.pattern.State.TheVariants.{Head}
use Rattle.ww_rule.specs.Wireworld.{Plane, evolve}
use Rattle.tile_core.specs.Drawing.{is_cell_of, Drawing, picture}
use Rattle.tile_core.specs.Interface.{Interface, entry_cells, exit_cells, lit_entries, lit_exits, is_in_box, is_on_border}

-- the drawing alone on the plane, with the chosen entries made heads
abbrev pub started : Interface → Drawing → Bool → Bool → Plane
started tile drawing a b = picture drawing (lit_entries tile a b) []

-- What the law says about one choice of entries. A cell is dark if it is no head, even if a tail
-- stands there. A tile of one lane has one entry, so `b` means nothing there.
pub record KeepsTime (tile : Interface) (drawing : Drawing) (a b : Bool) : Type 0 where
  -- no entry cell is a head at generations 1 to 32
  pub entries_stay_dark : (g : ℕ) (x y : ℤ) → 1 ≤ g → g ≤ 32
      → is_cell_of x y (entry_cells tile) ≡ true → evolve g (started tile drawing a b) x y ≢ Head
  -- each exit cell is a head at generation 31 exactly when the answer says so
  pub exits_answer : (x y : ℤ) → is_cell_of x y (exit_cells tile) ≡ true
      → (evolve 31 (started tile drawing a b) x y ≡ Head)
      ↔ (is_cell_of x y (lit_exits tile a b) ≡ true)
  -- no exit cell is a head at any other of the generations 0 to 32
  pub exits_stay_dark : (g : ℕ) (x y : ℤ) → g ≤ 32 → g ≢ 31
      → is_cell_of x y (exit_cells tile) ≡ true → evolve g (started tile drawing a b) x y ≢ Head
  -- at generation 32 every cell is a conductor, but the exit cells that were heads at 31, which are
  -- tails
  pub ends_at_rest : (x y : ℤ) → evolve 32 (started tile drawing a b) x y ≡ picture drawing []
      (lit_exits tile a b) x y

-- the drawing lies in the box and has every entry cell and every exit cell, and its other cells on
-- the border are empty
pub record HasPorts (tile : Interface) (drawing : Drawing) : Type 0 where
  pub in_box : (x y : ℤ) → drawing x y ≡ true → is_in_box tile x y ≡ true
  pub has_entries : (x y : ℤ) → is_cell_of x y (entry_cells tile) ≡ true → drawing x y ≡ true
  pub has_exits : (x y : ℤ) → is_cell_of x y (exit_cells tile) ≡ true → drawing x y ≡ true
  pub border : (x y : ℤ) → is_on_border tile x y ≡ true → drawing x y ≡ true
      → is_cell_of x y (entry_cells tile ++ exit_cells tile) ≡ true

-- the timing law, for each choice of entries
pub record MeetsTimingLaw (tile : Interface) (drawing : Drawing) : Type 0 where
  pub keeps_time : (a b : Bool) → KeepsTime tile drawing a b
  pub has_ports : HasPorts tile drawing

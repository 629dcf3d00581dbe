-- The timing law of a slice of cells.
use Rattle.std.specs.Prelude.{ℤ, ℕ, ◌*◌, ◌≤◌, ◌≡◌, ◌≢◌, ◌↔◌, ◌⊎◌, ◌&&◌, pos, Bool, true, false, cond, List, ◌++◌, get_or, ◌<◌, ◌/◌, ◌%◌, length, All}
use Rattle.std.specs.Ordering.{int_eq}
use Rattle.ww_rule.specs.declared.pattern.State.{State}
use Rattle.ww_rule.specs.declared.pattern.State.TheVariants.{Empty, Head, Tail, Conductor}
use Rattle.ww_rule.specs.Wireworld.{Plane}
use Rattle.tile_core.specs.declared.kind.Kind.{Kind}
use Rattle.tile_core.specs.Drawing.{Cell, is_cell_of, Drawing}
use Rattle.tile_core.specs.Interface.{Interface, entry_cells, exit_cells, lit_exits, is_on_border}
use Rattle.tile_core.specs.Kinds.{lanes, interface}
use Rattle.tile_core.specs.TimingLaw.{MeetsTimingLaw}
use Rattle.tile_timing.specs.Window.{shown}

abbrev pub is_filled : State → Bool
is_filled Empty = false
is_filled Head = true
is_filled Tail = true
is_filled Conductor = true

-- the cells that are not empty, of a slice whose rows are 32 cells wide
abbrev pub drawing_of : List State → Drawing
drawing_of cells x y = is_filled (shown cells 32 x y)

-- a drawing of the kind's size: as many cells as its box has, with conductors and empty cells alone
pub record IsDrawingOf (kind : Kind) (cells : List State) : Type 0 where
  pub size : length cells ≡ 512 * lanes kind
  pub unlit : All (λ cell. (cell ≡ Empty) ⊎ (cell ≡ Conductor)) cells

-- the slice is a drawing of the kind's size that keeps the timing law
pub record HoldsLaw (kind : Kind) (cells : List State) : Type 0 where
  pub is_drawing : IsDrawingOf kind cells
  pub law : MeetsTimingLaw (interface kind) (drawing_of cells)

abbrev pub is_at : ℕ × ℕ → ℕ → ℕ → Bool
is_at port x y = int_eq (pos x) (pos port.0) && int_eq (pos y) (pos port.1)

-- the drawing alone on the plane, with some of its cells in another state than conductor
abbrev pub marked : Drawing → List Cell → State → Plane
marked drawing cells mark x y =
    cond (drawing x y) (cond (is_cell_of x y cells) mark Conductor) Empty

-- none of the cells is a head
abbrev pub AreDark : List Cell → Plane → Type 0
AreDark cells p = (x y : ℤ) → is_cell_of x y cells ≡ true → p x y ≢ Head

-- of these cells those are heads that are among the lit ones
abbrev pub AreLitAs : List Cell → List Cell → Plane → Type 0
AreLitAs cells lit p =
    (x y : ℤ) → is_cell_of x y cells ≡ true → (p x y ≡ Head) ↔ (is_cell_of x y lit ≡ true)

-- the exits keep the timing law at generation g
pub record ExitsInTime (tile : Interface) (a b : Bool) (g : ℕ) (p : Plane) : Type 0 where
  pub dark : g ≢ 31 → AreDark (exit_cells tile) p
  pub answer : g ≡ 31 → AreLitAs (exit_cells tile) (lit_exits tile a b) p

-- all ports keep the timing law at generation g
pub record IsInTime (tile : Interface) (a b : Bool) (g : ℕ) (p : Plane) : Type 0 where
  pub entries : 1 ≤ g → AreDark (entry_cells tile) p
  pub exits : ExitsInTime tile a b g p

-- all of the cells are the drawing's
abbrev pub AreDrawn : List Cell → Drawing → Type 0
AreDrawn cells drawing = (x y : ℤ) → is_cell_of x y cells ≡ true → drawing x y ≡ true

-- a cell that is on the border and not empty is a port
abbrev pub IsClearAt : Kind → State → ℕ → ℕ → Type 0
IsClearAt kind cell x y =
    is_on_border (interface kind) (pos x) (pos y) ≡ true → is_filled cell ≡ true
    → is_cell_of (pos x) (pos y) (entry_cells (interface kind) ++ exit_cells (interface kind))
    ≡ true

abbrev pub IsBorderClear : Kind → List State → Type 0
IsBorderClear kind cells =
    (k : ℕ) → k < length cells → IsClearAt kind (get_or cells k Empty) (k % 32) (k / 32)

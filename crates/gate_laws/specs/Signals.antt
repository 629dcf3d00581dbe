-- Signals, and planes that carry them: driven by signals in the cells of its inputs, a plane shows
-- signals in the cells of its outputs.
use Rattle.std.specs.Prelude.{ℤ, ℕ, suc, ◌-◌, ◌/◌, ◌%◌, ◌≡◌, ◌≢◌, ◌↔◌, ◌==◌, nat_le, Bool, true, ◌&&◌, List, ◌++◌, Contains}
use Rattle.std.specs.List.{list_any}
use Rattle.std.specs.Ordering.{int_eq}
use Rattle.ww_rule.specs.declared.pattern.State.{State}
use Rattle.ww_rule.specs.declared.pattern.State.TheVariants.{Empty, Head, Conductor}
use Rattle.ww_rule.specs.Wireworld.{Plane, Due, heads_around, driven}

-- the state of a cell, which is given by its column and its row
abbrev pub cell_state : Plane → ℤ × ℤ → State
cell_state p cell = p cell.0 cell.1

-- a signal: a cell, the generation of its first cycle, and a bit for each cycle, for ever
pub record Signal : Type 0 where
  pub cell : ℤ × ℤ
  pub first : ℕ
  pub bit : ℕ → Bool

-- Is the cell of a signal a head at generation g? It is if g = first + t period for a cycle t in
-- which the bit is 1.
abbrev pub is_lit : (period : ℕ) → Signal → (g : ℕ) → Bool
is_lit period s g =
    nat_le s.first g && (g - s.first) % period == 0 && s.bit ((g - s.first) / period)

-- what signals make due: the cell of each, whenever it is lit
abbrev pub due_of_signals : (period : ℕ) → List Signal → Due
due_of_signals period signals g x y =
    list_any (λ s. is_lit period s g && int_eq s.cell.0 x && int_eq s.cell.1 y) signals

-- the cell is a conductor, and none of its neighbours is a head: one neighbour that becomes a head
-- lights it
pub record IsReady (p : Plane) (cell : ℤ × ℤ) : Type 0 where
  pub conductor : cell_state p cell ≡ Conductor
  pub alone : heads_around p cell.0 cell.1 ≡ 0

-- If the signals of the inputs drive the plane, each cell of an input or an output is a head
-- exactly when its signal is lit. No such cell is empty. One generation before an input is lit, its
-- cell is ready.
pub record CarriesSignals (period : ℕ) (p : Plane) (ins outs : List Signal) : Type 0 where
  pub drawn : (s : Signal) → Contains (ins ++ outs) s → cell_state p s.cell ≢ Empty
  pub shows : (s : Signal) → Contains (ins ++ outs) s → (g : ℕ)
      → (cell_state (driven (due_of_signals period ins) p g) s.cell ≡ Head)
      ↔ (is_lit period s g ≡ true)
  pub ready : (s : Signal) → Contains ins s → (g : ℕ) → is_lit period s (suc g) ≡ true
      → IsReady (driven (due_of_signals period ins) p g) s.cell

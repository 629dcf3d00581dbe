-- What a text that carries a design in contexts shows after the given bits, and before later ones.
use Rattle.std.specs.Prelude.{pos, ℕ, ◌+◌, ◌*◌, ◌≤◌, ◌<◌, ◌≡◌, ◌↔◌, List, ◌++◌, length, map, take, All, Bool, false, Some, slice_get}
use Rattle.ww_rule.specs.declared.pattern.State.TheVariants.{Head}
use Rattle.ww_rule.specs.Wireworld.{Due, Plane, driven}
use Rattle.ww_rule.specs.Grid.{plane_of}
use Rattle.pattern_reading.specs.declared.ports.NetLine.{NetLine}
use Rattle.pattern_reading.specs.declared.ports.PortLine.{PortLine}
use Rattle.netlist_core.specs.declared.model.Design.{Design}
use Rattle.netlist_meaning.specs.Nets.{Net}
use Rattle.netlist_meaning.specs.Valuation.{Valuation, LatchState, IsRunFrom, output_bit}
use Rattle.carries.specs.Contexts.{AreRunsFrom, context_drive, ShowsBitsInContexts}
use Rattle.carries.specs.DesignContexts.{AreInputContexts, CarriesContexts, CarriesNetsInContexts}

-- the rows of each context, with these rows after them
abbrev pub each_then : List (List (List Bool)) → List (List Bool) → List (List (List Bool))
each_then contexts zeros = map (λ rows. rows ++ zeros) contexts

-- the rows of each context, followed by these rows of 0, and runs on them, one from each start on
pub record RunOnZeros (design : Design) (starts : List LatchState) (cycles : ℕ)
    (contexts : List (List (List Bool))) (runs : ℕ → ℕ → Valuation) : Type 0 where
  pub zeros : List (List Bool)
  pub are_zeros : All (λ row. All (λ bit. bit ≡ false) row) zeros
  pub are_rows : AreInputContexts design (length starts) cycles (each_then contexts zeros)
  pub are_runs : AreRunsFrom (IsRunFrom design) starts (each_then contexts zeros) runs

-- When no further bits come in any context, the outputs go on to show the runs whose further rows
-- are 0: so there is no last generation.
abbrev pub ContextsGoOn : Type 0
ContextsGoOn =
    (text : List ℕ) (design : Design) (starts : List LatchState)
    (k : CarriesContexts text design starts)
    (cycles : ℕ) (contexts : List (List (List Bool))) (runs : ℕ → ℕ → Valuation)
    → RunOnZeros design starts cycles contexts runs
    → (output : ℕ) (cell : PortLine) → slice_get k.ports.outs output ≡ Some cell
    → (g : ℕ) → g < k.ports.l + cycles * k.ports.p
    → ShowsBitsInContexts k.ports.l k.ports.p (length starts) cycles
    (λ c t. output_bit design (runs c t) output) g
    (driven (context_drive k.ports contexts) (plane_of k.grid.rows) g) cell.x cell.y

-- So do the nets.
abbrev pub NetsGoOn : Type 0
NetsGoOn =
    (text : List ℕ) (design : Design) (starts : List LatchState)
    (k : CarriesNetsInContexts text design starts)
    (cycles : ℕ) (contexts : List (List (List Bool))) (runs : ℕ → ℕ → Valuation)
    → RunOnZeros design starts cycles contexts runs
    → (number : ℕ) (net : Net) (line : NetLine) → slice_get k.nets number ≡ Some net
    → slice_get k.carried.ports.nets number ≡ Some line
    → (g : ℕ) → g < line.offset + cycles * k.carried.ports.p
    → ShowsBitsInContexts line.offset k.carried.ports.p (length starts) cycles
    (λ c t. runs c t net.place net.name) g
    (driven (context_drive k.carried.ports contexts) (plane_of k.carried.grid.rows) g) line.x line.y

-- two lists of rows for each context, each list as long as a number of cycles, with the same first
-- rows
pub record HaveSameFront (design : Design) (count cycles : ℕ)
    (contexts others : List (List (List Bool))) : Type 0 where
  pub many : ℕ
  pub are_rows : AreInputContexts design count many contexts
  pub long : cycles ≤ many
  pub as_many : ℕ
  pub are_too : AreInputContexts design count as_many others
  pub as_long : cycles ≤ as_many
  pub same : map (take cycles) contexts ≡ map (take cycles) others

-- the cell at x, y is a head at generation g under both drives or under neither
abbrev pub AreHeadsAlike : (drive other : Due) → Plane → (g x y : ℕ) → Type 0
AreHeadsAlike drive other plane g x y =
    (driven drive plane g (pos x) (pos y) ≡ Head) ↔ (driven other plane g (pos x) (pos y) ≡ Head)

-- What outputs show in the first cycles does not depend on the bits of later ones: below the
-- generation at which they show the cycle after these, their cells are heads alike.
abbrev pub ContextsShowEachFront : Type 0
ContextsShowEachFront =
    (text : List ℕ) (design : Design) (starts : List LatchState)
    (k : CarriesContexts text design starts)
    (cycles : ℕ) (contexts others : List (List (List Bool)))
    → HaveSameFront design (length starts) cycles contexts others
    → (output : ℕ) (cell : PortLine) → slice_get k.ports.outs output ≡ Some cell
    → (g : ℕ) → g < k.ports.l + cycles * k.ports.p
    → AreHeadsAlike (context_drive k.ports contexts) (context_drive k.ports others)
    (plane_of k.grid.rows) g cell.x cell.y

-- So it is with nets.
abbrev pub NetsShowEachFront : Type 0
NetsShowEachFront =
    (text : List ℕ) (design : Design) (starts : List LatchState)
    (k : CarriesNetsInContexts text design starts)
    (cycles : ℕ) (contexts others : List (List (List Bool)))
    → HaveSameFront design (length starts) cycles contexts others
    → (number : ℕ) (line : NetLine) → slice_get k.carried.ports.nets number ≡ Some line
    → (g : ℕ) → g < line.offset + cycles * k.carried.ports.p
    → AreHeadsAlike (context_drive k.carried.ports contexts) (context_drive k.carried.ports others)
    (plane_of k.carried.grid.rows) g line.x line.y

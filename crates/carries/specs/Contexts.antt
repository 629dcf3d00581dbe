-- What the cells that a port table names show when rows of input bits drive a pattern in several
-- contexts: machines on the same wires, each 32 generations after the one before. Nothing here asks
-- for a netlist.
use Rattle.std.specs.Prelude.{pos, ℕ, ◌+◌, ◌*◌, ◌<◌, ◌≡◌, ◌↔◌, List, [], length, get_or, All, Bool, true, Some, slice_get}
use Rattle.ww_rule.specs.declared.pattern.State.TheVariants.{Head}
use Rattle.ww_rule.specs.Wireworld.{Plane, Due, driven}
use Rattle.ww_rule.specs.Contexts.{due_of_contexts}
use Rattle.pattern_reading.specs.declared.ports.Ports.{Ports}
use Rattle.pattern_reading.specs.declared.ports.PortLine.{PortLine}
use Rattle.pattern_reading.specs.declared.ports.NetLine.{NetLine}
use Rattle.pattern_reading.specs.Ports.{cells_of}

-- one list of rows of input bits for each of `count` contexts, all for the same number of cycles
pub record AreContextRows (AreRows : List (List Bool) → Type 0) (count cycles : ℕ)
    (contexts : List (List (List Bool))) : Type 0 where
  pub many : length contexts ≡ count
  pub long : All (λ rows. length rows ≡ cycles) contexts
  pub each : All AreRows contexts

-- the drive of such rows: for each context c, cycle t and input i whose bit is 1 there is one
-- injection, at generation 32 c + t P at the cell of input i, and there is no other
abbrev pub context_drive : Ports → List (List (List Bool)) → Due
context_drive ports contexts = due_of_contexts ports.p (cells_of ports.ins) contexts

-- a run for each context, on its rows and from its start on; `IsRunFrom` says what a run is
abbrev pub AreRunsFrom : {Start Bits : Type 0} → (Start → List (List Bool) → (ℕ → Bits) → Type 0)
    → List Start → List (List (List Bool)) → (ℕ → ℕ → Bits) → Type 0
AreRunsFrom {Start} {Bits} IsRunFrom starts contexts runs =
    (c : ℕ) (start : Start) → slice_get starts c ≡ Some start
    → IsRunFrom start (get_or contexts c []) (runs c)

-- the cell at x, y is a head at generation g exactly when g = first + 32 c + t period for a context
-- c below `count` and a cycle t below `cycles` in which the bit is 1
abbrev pub ShowsBitsInContexts : (first period count cycles : ℕ)
    → (bit : (context cycle : ℕ) → Bool) → (g : ℕ) → Plane → (x y : ℕ) → Type 0
ShowsBitsInContexts first period count cycles bit g plane x y =
    (plane (pos x) (pos y) ≡ Head) ↔ ((c : ℕ) × (t : ℕ) × (c < count) × (t < cycles)
    × (g ≡ first + 32 * c + t * period) × (bit c t ≡ true))

-- when these rows of N cycles drive the pattern, each output's cell shows the output's bits in each
-- context at every generation below L + N P
abbrev pub ShowsOutputsInContexts : Plane → Ports → (cycles : ℕ) → List (List (List Bool))
    → (bit : (context cycle output : ℕ) → Bool) → Type 0
ShowsOutputsInContexts plane ports cycles contexts bit =
    (output : ℕ) (cell : PortLine) → slice_get ports.outs output ≡ Some cell
    → (g : ℕ) → g < ports.l + cycles * ports.p
    → ShowsBitsInContexts ports.l ports.p (length contexts) cycles (λ c t. bit c t output) g
    (driven (context_drive ports contexts) plane g) cell.x cell.y

-- when these rows of N cycles drive the pattern, the cell of each net's line shows the net's bits
-- in each context at every generation below offset + N P; the lines stand in the order of the nets
abbrev pub ShowsNetLinesInContexts : {X : Type 0} → Plane → Ports → (cycles : ℕ)
    → List (List (List Bool)) → (nets : List X) → (bit : (context cycle : ℕ) → X → Bool) → Type 0
ShowsNetLinesInContexts {X} plane ports cycles contexts nets bit =
    (number : ℕ) (net : X) (line : NetLine) → slice_get nets number ≡ Some net
    → slice_get ports.nets number ≡ Some line
    → (g : ℕ) → g < line.offset + cycles * ports.p
    → ShowsBitsInContexts line.offset ports.p (length contexts) cycles (λ c t. bit c t net) g
    (driven (context_drive ports contexts) plane g) line.x line.y

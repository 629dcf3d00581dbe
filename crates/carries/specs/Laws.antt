-- A text carries a design with one pattern and one table, and what a table without OUT lines means.
use Rattle.std.specs.Prelude.{◌≡◌, ℕ, List, []}
use Rattle.netlist_core.specs.declared.model.Design.{Design}
use Rattle.netlist_meaning.specs.Places.{main_outputs}
use Rattle.carries.specs.Carries.{Carries}

-- a text that carries a design has one grid and one table
abbrev pub CarriesInOneWay : Type 0
CarriesInOneWay =
    (text : List ℕ) (design : Design) (a b : Carries text design)
    → (a.grid ≡ b.grid) × (a.ports ≡ b.ports)

-- a text whose table has no OUT line carries no design with an output
abbrev pub OutputsHaveLines : Type 0
OutputsHaveLines =
    (text : List ℕ) (design : Design) (c : Carries text design) → c.ports.outs ≡ []
    → main_outputs design ≡ []

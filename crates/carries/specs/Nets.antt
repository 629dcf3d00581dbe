-- What it means that a text carries the nets of a design: the pattern shows each net at a cell that
-- the port table names.
use Rattle.std.specs.Prelude.{ℕ, ◌≡◌, List, [], ◌∷◌, map, Bool}
use Rattle.ww_rule.specs.Wireworld.{Plane}
use Rattle.ww_rule.specs.Grid.{plane_of}
use Rattle.pattern_reading.specs.declared.ports.Ports.{Ports}
use Rattle.place_paths.specs.Paths.{name_and_path, names_and_paths}
use Rattle.netlist_core.specs.declared.model.Design.{Design}
use Rattle.netlist_meaning.specs.Nets.{Net, IsClockNet}
use Rattle.netlist_meaning.specs.InOrder.{nets_in_order}
use Rattle.netlist_meaning.specs.Valuation.{Valuation, AreInputRows, IsRun}
use Rattle.carries.specs.Cells.{ShowsNetLines}
use Rattle.carries.specs.Carries.{Carries}

-- the second list has the nets of the first that are no clock nets, in order
pub data WithoutClocks (design : Design) : List Net → List Net → Type 0 where
  none : WithoutClocks design [] []
  kept : {net : Net} {nets rest : List Net} → ¬ IsClockNet design net
      → WithoutClocks design nets rest → WithoutClocks design (net ∷ nets) (net ∷ rest)
  left_out : {net : Net} {nets rest : List Net} → IsClockNet design net
      → WithoutClocks design nets rest → WithoutClocks design (net ∷ nets) rest

-- the nets of a design except the clock nets: by place, and at a place in the order in which the
-- names first stand in the model's text
abbrev pub AreSeenNets : Design → List Net → Type 0
AreSeenNets design nets = WithoutClocks design (nets_in_order design) nets

-- the NET lines of the table name these nets, one line per net, in order, each by its name and the
-- path of its place
abbrev pub NamesNets : Ports → List Net → Type 0
NamesNets ports nets =
    names_and_paths ports.nets ≡ map (λ net. name_and_path net.place net.name) nets

-- when any rows of input bits drive the pattern, for any number of cycles, in every run of the
-- design on them the cell of each net's line shows the net's bits
abbrev pub ShowsNets : Plane → Ports → Design → List Net → Type 0
ShowsNets plane ports design nets =
    (rows : List (List Bool)) → AreInputRows design rows → (run : ℕ → Valuation)
    → IsRun design rows run
    → ShowsNetLines plane ports rows nets (λ t net. run t net.place net.name)

-- A text carries the nets of a design: it carries the design, each net except the clock nets has a
-- line in the same table, and the line's cell shows the net in the same pattern.
pub record CarriesNets (text : List ℕ) (design : Design) : Type 0 where
  pub carried : Carries text design
  pub nets : List Net
  pub are_nets : AreSeenNets design nets
  pub names : NamesNets carried.ports nets
  pub shows : ShowsNets (plane_of carried.grid.rows) carried.ports design nets

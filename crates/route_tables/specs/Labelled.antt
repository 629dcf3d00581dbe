-- What the checks of tables show of the plane.
use Rattle.std.specs.Prelude.{ℕ, List, [], map}
use Rattle.ww_rule.specs.declared.pattern.State.{State}
use Rattle.routed_circuits.specs.Labels.{IsLabelled}
use Rattle.routed_circuits.specs.Lists.{point_signal}
use Rattle.route_tables.specs.declared.tables.Tables.{Tables}
use Rattle.route_tables.specs.Owners.{owner_at}
use Rattle.route_tables.specs.Tables.{sourced_wires, placed_gates, dark_wire, driven_points, box_plane, own}
use Rattle.route_tables.specs.Checked.{HasItsCells, ComputesItsList}

-- the plane of the box is labelled with the gates and wires of the tables
abbrev pub IsRoutedBox : Tables → List State → (period : ℕ) → Type 0
IsRoutedBox t states period =
    IsLabelled period (placed_gates t) (map (dark_wire t) (sourced_wires t))
    (map (point_signal t.list []) (driven_points t)) (box_plane t states)
    (owner_at (own t) t.serials t.width)

-- so it is if the checks of cells, times and electrons find no fault
abbrev pub CheckedAreLabelled : Type 0
CheckedAreLabelled =
    (t : Tables) (states : List State) (period : ℕ) → HasItsCells t states
    → ComputesItsList t states period → IsRoutedBox t states period

-- What is checked shows the runs of its list.
use Rattle.std.proofs.Common.{List, [], map}
use Rattle.ww_rule.specs.declared.pattern.State.{State}
use Rattle.pattern_reading.specs.declared.ports.Ports.{Ports}
use Rattle.routed_circuits.proofs.Labels.{labelled_are_drawn}
use Rattle.routed_circuits.specs.Lists.{point_signal}
use Rattle.routed_circuits.specs.Tables.{ShowsListRuns}
use Rattle.routed_circuits.proofs.Shown.{routed_show_runs}
use Rattle.route_tables.specs.declared.tables.Tables.{Tables}
use Rattle.route_tables.specs.Owners.{owner_at}
use Rattle.route_tables.specs.Tables.{sourced_gates, sourced_wires, placed_gates, dark_wire, driven_points, box_plane, own}
use Rattle.route_tables.specs.Checked.{IsChecked}
use Rattle.route_tables.proofs.Drawn.{checked_are_labelled}
use Rattle.route_cells.proofs.Computing.{computes_list}
use Rattle.route_cells.proofs.PortTable.{table_of_points}

pub checked_show_runs : (t : Tables) (states : List State) (ports : Ports) → IsChecked t states ports → ShowsListRuns (box_plane t states) ports t.list
checked_show_runs t states ports checked =
    let drawn = labelled_are_drawn ports.p (placed_gates t) (map (dark_wire t) (sourced_wires t)) (map (point_signal t.list []) (driven_points t)) (box_plane t states)
    (owner_at (own t) t.serials t.width) (checked_are_labelled t states ports.p checked.cells checked.computes) in
    routed_show_runs t.list (sourced_gates t) (sourced_wires t) (driven_points t) (box_plane t states) ports checked.long
    (computes_list t states ports checked drawn.0 drawn.1) (table_of_points t states ports checked.ports_are)

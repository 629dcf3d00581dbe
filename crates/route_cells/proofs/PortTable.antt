-- The port table of what is checked stands at points.
use Rattle.std.proofs.Common.{◌≡◌, sym, ◌∙◌, ap, subst, pos, ℕ, ◌<◌, ◌≤◌, ◌⊎◌, inl, inr, ⊎_elim, List, length, slice_get, Some}
use Rattle.std.proofs.lemmas.Option.{slice_get_cases, same_Some}
use Rattle.std.specs.Prelude.{Contains}
use Rattle.lists.proofs.Members.{In, in_from, contains_from, in_map, in_got}
use Rattle.ww_rule.specs.declared.pattern.State.{State}
use Rattle.pattern_reading.specs.declared.ports.Ports.{Ports}
use Rattle.pattern_reading.specs.declared.ports.PortLine.{PortLine}
use Rattle.cell_core.specs.declared.cells.Src.{Src}
use Rattle.cell_core.specs.declared.cells.Src.TheVariants.{Zero}
use Rattle.routed_circuits.specs.Lists.{Point, all_points}
use Rattle.routed_circuits.specs.Tables.{in_point, IsTableOfPoints}
use Rattle.gate_library.specs.declared.circuit.DrawnPort.{DrawnPort}
use Rattle.route_tables.specs.declared.tables.GateInput.{GateInput}
use Rattle.route_tables.specs.declared.tables.Tables.{Tables}
use Rattle.route_tables.specs.Tables.{sourced_gates, input_point, driven_points, box_plane}
use Rattle.route_tables.specs.Runs.{ShowsAt}
use Rattle.route_tables.specs.Checked.{HasItsPorts}
use Rattle.route_cells.proofs.PortPoints.{port_in}
use Rattle.route_cells.proofs.Computing.{driven_of}

-- a line at a port is at a point
shown_at : (t : Tables) (ports : List DrawnPort) (i x y first : ℕ) (source : Src) → (shows : ShowsAt t ports i x y first source)
    → Contains (all_points (sourced_gates t)) (((pos x, pos y), first), source)
shown_at t ports i x y first source shows =
    contains_from _ _ (subst (λ it. In it (all_points (sourced_gates t))) shows.point (port_in t shows.at shows.there))

pub table_of_points : (t : Tables) (states : List State) (ports : Ports) → HasItsPorts t states ports
    → IsTableOfPoints t.list (driven_points t) (all_points (sourced_gates t)) ports (box_plane t states)
table_of_points t states ports has =
    record {
      in_lines = λ i line at. let c = has.ins i line at in
          contains_from _ _ (subst (λ it. In it (driven_points t)) c.point (in_map (input_point t) t.driven c.at (in_got t.driven i c.at c.driven)));
      others = λ point c. other point (driven_of t point (in_from _ point c));
      conductors = λ i line at. (has.ins i line at).dark;
      out_lines = λ o line at. shown_at t t.outs o line.x line.y ports.l _ (has.outs o line at);
      net_lines = λ n line at. shown_at t t.nets n line.x line.y line.offset _ (has.nets n line at);
    }
  where
    other : (point : Point) → (d : ℕ) × (at : GateInput) × (slice_get t.driven d ≡ Some at) × (point ≡ input_point t at)
        → (point.1 ≡ Zero) ⊎ ((i : ℕ) × (line : PortLine) × (slice_get ports.ins i ≡ Some line) × (point ≡ in_point line i))
    other point (d, at, is, here) =
        ⊎_elim
        (λ (r : (line : PortLine) × (d < length ports.ins) × (slice_get ports.ins d ≡ Some line) × _).
        let c = has.ins d r.0 r.2 in
        inr (d, r.0, r.2, here ∙ ap (input_point t) (same_Some _ _ (sym is ∙ c.driven)) ∙ c.point))
        (λ (past : (length ports.ins ≤ d) × _). inl (ap (λ (p : Point). p.1) here ∙ has.dark d at past.0 is))
        ((slice_get_cases ports.ins d).1)

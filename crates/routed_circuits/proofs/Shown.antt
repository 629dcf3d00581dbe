-- A routed plane shows the runs of its list at the cells of its table.
use Rattle.std.proofs.Common.{ℤ, pos, ℕ, zero, suc, ◌<◌, ◌≤◌, ◌≡◌, sym, ap, ap₂, ◌∙◌, subst, inl, inr, Bool, true, List, [], ◌++◌, length, map, get_or, arith, true≢false}
use Rattle.std.specs.Prelude.{Contains, ◌↔◌, ◌⊎◌, Some, slice_get}
use Rattle.std.specs.Cmp.{both_ways}
use Rattle.std.proofs.Math.Path.{fun_ext}
use Rattle.std.proofs.lemmas.List.{length-map, get_or-map}
use Rattle.std.proofs.lemmas.Option.{slice_get-get_or, slice_get_within, get_or_from_slice_get}
use Rattle.lists.proofs.Members.{in_from, contains_from, in_right, in_map, in_mapped}
use Rattle.lists.specs.Items.{flag_at, list_at}
use Rattle.ww_rule.specs.declared.pattern.State.{State}
use Rattle.ww_rule.specs.declared.pattern.State.TheVariants.{Head, Conductor}
use Rattle.ww_rule.specs.Wireworld.{Plane, Due, next_state, driven}
use Rattle.ww_rule.specs.Injections.{MeetsConductors}
use Rattle.gate_laws.specs.Signals.{Signal, is_lit, cell_state, due_of_signals, IsReady, CarriesSignals}
use Rattle.gate_laws.specs.Rows.{Port, signals_of_rows}
use Rattle.gate_laws.proofs.WireLit.{lit_in, in_lit}
use Rattle.gate_laws.proofs.Dues.{due_by_signal, signal_is_due}
use Rattle.gate_laws.proofs.Rows.{port_signal, no_port, port_of_signal, signal_of_port, rows_are_signals}
use Rattle.pattern_reading.specs.declared.ports.Ports.{Ports}
use Rattle.pattern_reading.specs.declared.ports.PortLine.{PortLine}
use Rattle.pattern_reading.specs.Ports.{cells_of}
use Rattle.carries.specs.Cells.{drive}
use Rattle.cell_core.specs.declared.cells.Src.{Src}
use Rattle.cell_core.specs.declared.cells.Src.TheVariants.{Zero}
use Rattle.cell_core.specs.declared.list.CellList.{CellList}
use Rattle.routed_circuits.specs.Runs.{src_at, list_bit}
use Rattle.routed_circuits.specs.Lists.{Point, SourcedGate, SourcedWire, all_points, point_signal, ComputesList}
use Rattle.routed_circuits.proofs.Carried.{lists_are_carried}
use Rattle.routed_circuits.specs.Tables.{in_point, IsTableOfPoints, ShowsBits, RoutedShowRuns}

no_line : PortLine
no_line = record { x = 0; y = 0; name = [] }

abbrev line_place : PortLine → ℕ × ℕ
line_place line = (line.x, line.y)

ready_stays : (s : State) (n : ℕ) → s ≡ Conductor → n ≡ 0 → next_state s n ≡ Conductor
ready_stays s n e f = ap₂ next_state e f

module _ (list : CellList) (gates : List SourcedGate) (wires : List SourcedWire) (ins : List Point) (plane : Plane) (ports : Ports) (least : 3 ≤ ports.p) (h : ComputesList ports.p list gates wires ins plane) (table : IsTableOfPoints list ins (all_points gates) ports plane) (rows : List (List Bool)) where
  some : 0 < ports.p
  some = omega (arith, least)

  abbrev signal : Point → Signal
  signal = point_signal list rows

  abbrev driven_ins : List Signal
  driven_ins = map signal ins

  abbrev shown : List Signal
  shown = map signal (all_points gates)

  run : CarriesSignals ports.p plane driven_ins shown
  run = lists_are_carried ports.p least list gates wires ins plane h rows

  abbrev cells : List (ℕ × ℕ)
  cells = cells_of ports.ins

  abbrev row_signals : List Signal
  row_signals = signals_of_rows cells rows

  abbrev port_at : ℕ × ℕ → Port
  port_at cell = ((pos cell.0, pos cell.1), 0)

  abbrev row_bits : ℕ → ℕ → Bool
  row_bits t i = flag_at (list_at rows t) i

  -- the signal of an IN line is that of its point
  line_signal : (i : ℕ) (line : PortLine) → slice_get ports.ins i ≡ Some line → port_signal (get_or (map port_at cells) i no_port) row_bits i ≡ signal (in_point line i)
  line_signal i line at =
      let low : i < length ports.ins = slice_get_within ports.ins i line at in
      let low_cell : i < length cells = omega (arith, low, length-map ports.ins line_place) in
      let cell : get_or cells i (0, 0) ≡ (line.x, line.y) = get_or-map line_place ports.ins i line (0, 0) low ∙ ap line_place (get_or_from_slice_get ports.ins i line line at) in
      ap (λ p. port_signal p row_bits i) (get_or-map port_at cells i (0, 0) no_port low_cell ∙ ap port_at cell)

  among_rows : (i : ℕ) (line : PortLine) → slice_get ports.ins i ≡ Some line → Contains row_signals (signal (in_point line i))
  among_rows i line at =
      let low : i < length ports.ins = slice_get_within ports.ins i line at in
      let low_port : i < length (map port_at cells) = omega (arith, low, length-map ports.ins line_place, length-map cells port_at) in
      subst (Contains row_signals) (line_signal i line at) (contains_from row_signals _ (signal_of_port (map port_at cells) row_bits i low_port))

  module _ (g : ℕ) (c : ℤ × ℤ) where
    to_rows : due_of_signals ports.p driven_ins g c.0 c.1 ≡ true → due_of_signals ports.p row_signals g c.0 c.1 ≡ true
    to_rows e =
        let by = due_by_signal ports.p driven_ins g c e in
        let found = in_mapped signal ins by.0 (in_from driven_ins by.0 by.1) in
        let point = found.0 in
        let lit : is_lit ports.p (signal point) g ≡ true = ap (λ s. is_lit ports.p s g) (sym found.2) ∙ by.2 in
        let cell : (signal point).cell ≡ c = ap (λ (s : Signal). s.cell) (sym found.2) ∙ by.3 in
        of_point point lit cell (table.others point (contains_from ins point found.1))
      where
        of_point : (point : Point) → is_lit ports.p (signal point) g ≡ true → (signal point).cell ≡ c → (point.1 ≡ Zero) ⊎ ((i : ℕ) × (line : PortLine) × (slice_get ports.ins i ≡ Some line) × (point ≡ in_point line i)) → due_of_signals ports.p row_signals g c.0 c.1 ≡ true
        of_point point lit cell (inl none) =
            let cycle = lit_in ports.p (signal point) g lit in
            absurd (true≢false (sym cycle.2 ∙ ap (list_bit list rows cycle.0) none))
        of_point point lit cell (inr (i, line, at, is)) =
            signal_is_due ports.p row_signals g c (signal (in_point line i)) (among_rows i line at) (ap (λ p. is_lit ports.p (signal p) g) (sym is) ∙ lit) (ap (λ p. (signal p).cell) (sym is) ∙ cell)

    from_rows : due_of_signals ports.p row_signals g c.0 c.1 ≡ true → due_of_signals ports.p driven_ins g c.0 c.1 ≡ true
    from_rows e =
        let by = due_by_signal ports.p row_signals g c e in
        let of = port_of_signal (map port_at cells) row_bits by.0 (in_from row_signals by.0 by.1) in
        let l : of.port < length ports.ins = omega (arith, of.within, length-map ports.ins line_place, length-map cells port_at) in
        let line = get_or ports.ins of.port no_line in
        let at = slice_get-get_or ports.ins of.port no_line l in
        let is : by.0 ≡ signal (in_point line of.port) = of.is ∙ line_signal of.port line at in
        signal_is_due ports.p driven_ins g c (signal (in_point line of.port)) (contains_from driven_ins _ (in_map signal ins (in_point line of.port) (in_from ins (in_point line of.port) (table.in_lines of.port line at)))) (ap (λ s. is_lit ports.p s g) (sym is) ∙ by.2) (ap (λ (s : Signal). s.cell) (sym is) ∙ by.3)

  dues : due_of_signals ports.p driven_ins ≡ drive ports rows
  dues =
      fun_ext (λ g. fun_ext (λ x. fun_ext (λ y. both_ways _ _ (to_rows g (x, y)) (from_rows g (x, y)))))
      ∙ rows_are_signals ports.p some cells rows

  meets : MeetsConductors (due_of_signals ports.p driven_ins) plane
  meets zero x y e =
      let by = due_by_signal ports.p row_signals zero (x, y) (to_rows zero (x, y) e) in
      let of = port_of_signal (map port_at cells) row_bits by.0 (in_from row_signals by.0 by.1) in
      let l : of.port < length ports.ins = omega (arith, of.within, length-map ports.ins line_place, length-map cells port_at) in
      let line = get_or ports.ins of.port no_line in
      let at = slice_get-get_or ports.ins of.port no_line l in
      let cell : (pos line.x, pos line.y) ≡ (x, y) = sym (ap (λ (s : Signal). s.cell) (of.is ∙ line_signal of.port line at)) ∙ by.3 in
      ap (cell_state plane) (sym cell) ∙ table.conductors of.port line at
  meets (suc g) x y e =
      let by = due_by_signal ports.p driven_ins (suc g) (x, y) e in
      let is = subst (IsReady (driven (due_of_signals ports.p driven_ins) plane g)) by.3 (run.ready by.0 by.1 g by.2) in
      ready_stays _ _ is.conductor is.alone

  pub meets_drive : MeetsConductors (drive ports rows) plane
  meets_drive = subst (λ due. MeetsConductors due plane) dues meets

  pub shows_point : (x y first : ℕ) (src : Src) → Contains (all_points gates) (((pos x, pos y), first), src) → (g : ℕ) → ShowsBits first ports.p (λ t. list_bit list rows t src) g (driven (drive ports rows) plane g) x y
  shows_point x y first src among g =
      let s = signal (((pos x, pos y), first), src) in
      let here = contains_from (driven_ins ++ shown) s (in_right driven_ins shown s (in_map signal (all_points gates) (((pos x, pos y), first), src) (in_from (all_points gates) (((pos x, pos y), first), src) among))) in
      let is = subst (λ (due : Due). (cell_state (driven due plane g) (pos x, pos y) ≡ Head) ↔ (is_lit ports.p s g ≡ true)) dues (run.shows s here g) in (
        λ head. lit_in ports.p s g (is.0 head),
        λ at. is.1 (in_lit ports.p s g at.0 some at.1 at.2),
      )

pub routed_show_runs : RoutedShowRuns
routed_show_runs list gates wires ins plane ports least h table =
    record {
      conductors = λ rows. meets_drive list gates wires ins plane ports least h table rows;
      outs = λ rows o line at g. shows_point list gates wires ins plane ports least h table rows line.x line.y ports.l (src_at list.outs o) (table.out_lines o line at) g;
      nets = λ rows k line at g. shows_point list gates wires ins plane ports least h table rows line.x line.y line.offset (src_at list.nets k) (table.net_lines k line at) g;
    }

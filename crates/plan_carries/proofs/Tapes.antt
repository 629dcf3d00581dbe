-- The text of a plan with bits of the inputs on its tape runs by itself.
use Rattle.std.proofs.Common.{◌≡◌, ◌↔◌, refl, sym, ◌∙◌, ap, ap₂, subst, ℕ, zero, suc, ◌+◌, ◌*◌, ◌<◌, Bool, false, inr, List, [], ◌∷◌, ◌++◌, length, map, replicate, get_or, arith}
use Rattle.std.specs.Prelude.{Some, None, slice_get, slice_index, unwrap_or, ◌==◌, if◌then◌else◌, All}
use Rattle.std.specs.List.{range_with_len}
use Rattle.std.proofs.lemmas.Bool.{cond-false}
use Rattle.std.proofs.lemmas.Bool.Decides.{nat_tests}
use Rattle.std.proofs.lemmas.List.{length-map, get_or-map, get_or_past}
use Rattle.std.proofs.lemmas.List.Elements.{All-map}
use Rattle.std.proofs.lemmas.Option.{slice_get-get_or, slice_get_within, get_or_from_slice_get}
use Rattle.ww_rule.specs.Wireworld.{Plane, evolve, driven}
use Rattle.ww_rule.specs.Injections.{due_of_streams}
use Rattle.ww_rule.proofs.Lists.{streams_go_on}
use Rattle.tile_library.specs.Drawings.{shipped_drawing}
use Rattle.tile_library.proofs.Kept.{shipped_keeps_law}
use Rattle.lane_core.specs.declared.plan.NetPlace.{NetPlace}
use Rattle.lane_core.specs.declared.plan.Plan.{Plan}
use Rattle.lane_core.specs.Plans.{IsAdmissible, left_of, row_of, cell_after, net_cell_of}
use Rattle.lane_core.specs.Tape.{AreTapeLists, tape_cycles, tape_row, tape_rows, tape_shift, moved_east}
use Rattle.plan_waves.specs.Loaded.{with_tape}
use Rattle.plan_layout.specs.Starts.{HasStartEdges}
use Rattle.plan_layout.specs.Planes.{start_plane}
use Rattle.plan_layout.specs.Tape.{drawn_plane}
use Rattle.grid_assembly.proofs.Pattern.{patterns_are_planes}
use Rattle.grid_assembly.specs.PlanDrawing.{start_grid}
use Rattle.cell_core.specs.declared.list.CellList.{CellList}
use Rattle.netlist_core.specs.declared.flat.Flat.{Flat}
use Rattle.netlist_meaning.specs.Flat.{listed_nets}
use Rattle.netlist_meaning.specs.FlatValuation.{AreFlatRows, IsFlatRun, IsFlatValuation, start_bits, flat_state_in, flat_output_bit}
use Rattle.pattern_reading.specs.declared.ports.NetLine.{NetLine}
use Rattle.pattern_reading.specs.declared.ports.PortLine.{PortLine}
use Rattle.pattern_reading.specs.declared.ports.Ports.{Ports}
use Rattle.pattern_reading.specs.Ports.{cells_of}
use Rattle.pattern_writing.proofs.Written.{written_text}
use Rattle.carries.specs.Cells.{ShowsBitsFrom, drive}
use Rattle.carries.specs.ByItself.{ThenZeros, IsFlatRunOnward, ShowsOutputsByItself, ShowsNetLinesByItself, ShowsFlatRunsByItself}
use Rattle.carries.specs.FlatNets.{ShowsFlatRuns}
use Rattle.plan_ports.specs.Tables.{IsTableOf}
use Rattle.plan_ports.proofs.GatheredNets.{place_of_line}
use Rattle.plan_ports.proofs.Readable.{one_has_room, small_size, tables_are_readable}
use Rattle.plan_waves.specs.Tape.{drive_of_rows}
use Rattle.plan_waves.specs.TapeLaws.{ShowsByItself}
use Rattle.plan_waves.proofs.TapesShown.{shows_by_itself}
use Rattle.plan_carries.specs.Compiled.{IsCompiled}
use Rattle.plan_carries.specs.Laws.{StartsAsFlat}
use Rattle.plan_carries.specs.TapeLaws.{TapesRunByThemselves}
use Rattle.plan_carries.proofs.Bare.{lane_cell, bare_in_cells, bare_out_cells, bare_net_cells}
use Rattle.plan_carries.proofs.Carried.{planes_show_runs}
use Rattle.plan_carries.proofs.Runs.{row_onward, goes_on}
use Rattle.plan_carries.proofs.Written.{plans_have_ports}

-- a row of 0 bits
zero_row : (row : List Bool) → All (λ bit. bit ≡ false) row → row ≡ replicate (length row) false
zero_row [] none = refl
zero_row (bit ∷ row) none = ap₂ (λ (b : Bool) (r : List Bool). b ∷ r) (none 0 bit (omega arith)) (zero_row row (λ k d within. none (suc k) d (omega (arith, within))))

-- the row of a cycle of rows and zeros after them
module _ (flat : Flat) (rows : List (List Bool)) where
  zeros_onward : (zeros : List (List Bool)) → All (λ row. All (λ bit. bit ≡ false) row) zeros → AreFlatRows flat zeros → (t : ℕ) → get_or zeros t (replicate (length flat.ins) false) ≡ replicate (length flat.ins) false
  zeros_onward [] none are t = get_or_past [] t (replicate (length flat.ins) false) (omega arith)
  zeros_onward (row ∷ zeros) none are zero = zero_row row (none 0 row (omega arith)) ∙ ap (λ n. replicate n false) (are 0 row (omega arith))
  zeros_onward (row ∷ zeros) none are (suc t) = zeros_onward zeros (λ k d within. none (suc k) d (omega (arith, within))) (λ k d within. are (suc k) d (omega (arith, within))) t

row_of_all : (flat : Flat) (rows zeros : List (List Bool)) → All (λ row. All (λ bit. bit ≡ false) row) zeros → AreFlatRows flat (rows ++ zeros) → (t : ℕ) → row_onward flat (rows ++ zeros) t ≡ row_onward flat rows t
row_of_all flat [] zeros none are t = zeros_onward flat [] zeros none are t ∙ sym (get_or_past [] t (replicate (length flat.ins) false) (omega arith))
row_of_all flat (row ∷ rows) zeros none are zero = refl
row_of_all flat (row ∷ rows) zeros none are (suc t) = row_of_all flat rows zeros none (λ k d within. are (suc k) d (omega (arith, within))) t

-- the bits of a tape, read across, have one for each input
rows_wide : (flat : Flat) (plan : Plan) → length plan.tape ≡ length flat.ins → AreFlatRows flat (tape_rows plan)
rows_wide flat plan many =
    All-map (λ (row : List Bool). length row ≡ length flat.ins) (tape_row plan) (range_with_len 0 (tape_cycles plan))
    (λ k d within. length-map plan.tape (λ (bits : List Bool). unwrap_or (slice_get bits (get_or (range_with_len 0 (tape_cycles plan)) k d)) false) ∙ many)

both : {A B C : Type 0} → (A ↔ B) → (B ↔ C) → (A ↔ C)
both p q = (λ a. q.0 (p.0 a), λ c. p.1 (q.1 c))

abbrev line_place : PortLine → ℕ × ℕ
line_place line = (line.x, line.y)

no_ins : (lines : List PortLine) → cells_of lines ≡ [] → lines ≡ []
no_ins [] e = refl
no_ins (line ∷ lines) e = let many : suc (length (cells_of lines)) ≡ 0 = ap length e in absurd (omega (arith, many))

module _ (flat : Flat) (list : CellList) (plan : Plan) (ports : Ports) (k : IsCompiled flat list plan 1 ports) (s : StartsAsFlat flat list plan) (edges : HasStartEdges plan)
    (bits : List (List Bool)) (each : length bits ≡ length plan.ins) (lists : AreTapeLists bits) where
  abbrev loaded : Plan
  loaded = with_tape bits plan

  abbrev rows : List (List Bool)
  rows = tape_rows (with_tape bits plan)

  admissible : IsAdmissible loaded
  admissible = record {
    size = record {
      lanes = k.admissible.size.lanes;
      columns = k.admissible.size.columns;
      both = k.admissible.size.both;
      loops_on_lanes = k.admissible.size.loops_on_lanes;
      loops_in_columns = k.admissible.size.loops_in_columns;
    };
    instrs = k.admissible.instrs;
    apart = k.admissible.apart;
    ins = k.admissible.ins;
    outs = k.admissible.outs;
    nets = k.admissible.nets;
    tape = record { each_input = inr each; lists = lists };
  }

  -- the lines of outputs and of nets of the two tables: those of the loaded plan are further east
  out_at : (table : Ports) → IsTableOf flat loaded 1 table → (output : ℕ) (cell : PortLine) → slice_get table.outs output ≡ Some cell
      → (output < length plan.outs) × (line_place cell ≡ lane_cell (32 * tape_shift loaded + left_of plan (length plan.columns)) (slice_index plan.outs output))
  out_at table t output cell e =
      let place : PortLine → ℕ × ℕ = line_place in
      let drawn : ℕ → ℕ × ℕ = lane_cell (32 * tape_shift loaded + left_of plan (length plan.columns)) in
      let low : output < length table.outs = slice_get_within table.outs output cell e in
      let one : length (map place table.outs) ≡ length table.outs = length-map table.outs place in
      let two : length (map drawn plan.outs) ≡ length plan.outs = length-map plan.outs drawn in
      let all : length (map place table.outs) ≡ length (map drawn plan.outs) = ap length t.out_cells in
      let within : output < length plan.outs = omega (arith, low, one, two, all) in (
        within,
        ap place (sym (get_or_from_slice_get table.outs output cell cell e))
            ∙ sym (get_or-map place table.outs output cell (0, 0) low)
            ∙ ap (λ cells. get_or cells output (0, 0)) t.out_cells
            ∙ get_or-map drawn plan.outs output 0 (0, 0) within,
      )

  net_at : (table : Ports) → IsTableOf flat loaded 1 table → (number : ℕ) (line : NetLine) → slice_get table.nets number ≡ Some line
      → (number < length plan.nets) × (place_of_line line ≡ moved_east (tape_shift loaded) (net_cell_of plan number))
  net_at table t number line e =
      let drawn = λ (place : NetPlace). moved_east (tape_shift loaded) (cell_after plan place.lane place.after) in
      let low : number < length table.nets = slice_get_within table.nets number line e in
      let one : length (map place_of_line table.nets) ≡ length table.nets = length-map table.nets place_of_line in
      let two : length (map drawn plan.nets) ≡ length plan.nets = length-map plan.nets drawn in
      let all : length (map place_of_line table.nets) ≡ length (map drawn plan.nets) = ap length t.net_cells in
      let within : number < length plan.nets = omega (arith, low, one, two, all) in (
        within,
        ap place_of_line (sym (get_or_from_slice_get table.nets number line line e))
            ∙ sym (get_or-map place_of_line table.nets number line (0, 0, 0) low)
            ∙ ap (λ cells. get_or cells number (0, 0, 0)) t.net_cells
            ∙ get_or-map drawn plan.nets number (record { lane = 0; after = None }) (0, 0, 0) within,
      )

  -- the same of the plan without its tape
  abbrev no_port : PortLine
  no_port = record { x = 0; y = 0; name = [] }

  abbrev no_line : NetLine
  no_line = record { x = 0; y = 0; offset = 0; name = []; path = [] }

  own_out : (output : ℕ) → output < length plan.outs
      → (slice_get ports.outs output ≡ Some (get_or ports.outs output no_port)) × (line_place (get_or ports.outs output no_port) ≡ lane_cell (left_of plan (length plan.columns)) (slice_index plan.outs output))
  own_out output within =
      let place : PortLine → ℕ × ℕ = line_place in
      let own : ℕ → ℕ × ℕ = lane_cell (left_of plan (length plan.columns)) in
      let one : length (map place ports.outs) ≡ length ports.outs = length-map ports.outs place in
      let two : length (map own plan.outs) ≡ length plan.outs = length-map plan.outs own in
      let cells = bare_out_cells plan k.bare flat 1 ports k.table in
      let all : length (map place ports.outs) ≡ length (map own plan.outs) = ap length cells in
      let low : output < length ports.outs = omega (arith, within, one, two, all) in (
        slice_get-get_or ports.outs output no_port low,
        sym (get_or-map place ports.outs output no_port (0, 0) low) ∙ ap (λ c. get_or c output (0, 0)) cells ∙ get_or-map own plan.outs output 0 (0, 0) within,
      )

  own_net : (number : ℕ) → number < length plan.nets
      → (slice_get ports.nets number ≡ Some (get_or ports.nets number no_line)) × (place_of_line (get_or ports.nets number no_line) ≡ net_cell_of plan number)
  own_net number within =
      let own = λ (place : NetPlace). cell_after plan place.lane place.after in
      let one : length (map place_of_line ports.nets) ≡ length ports.nets = length-map ports.nets place_of_line in
      let two : length (map own plan.nets) ≡ length plan.nets = length-map plan.nets own in
      let cells = bare_net_cells plan k.bare flat 1 ports k.table in
      let all : length (map place_of_line ports.nets) ≡ length (map own plan.nets) = ap length cells in
      let low : number < length ports.nets = omega (arith, within, one, two, all) in (
        slice_get-get_or ports.nets number no_line low,
        sym (get_or-map place_of_line ports.nets number no_line (0, 0, 0) low) ∙ ap (λ c. get_or c number (0, 0, 0)) cells
            ∙ get_or-map own plan.nets number (record { lane = 0; after = None }) (0, 0, 0) within,
      )

  -- what the rows of the tape drive, and zeros after them
  same_plane : (all : List (List Bool)) → ThenZeros rows all → (g : ℕ) → driven (drive ports all) (start_plane shipped_drawing plan) g ≡ driven (drive_of_rows loaded rows) (start_plane shipped_drawing loaded) g
  same_plane all (zeros, none, is) g =
      ap (λ (r : List (List Bool)). driven (drive ports r) (start_plane shipped_drawing plan) g) is
      ∙ (streams_go_on ports.p (cells_of ports.ins) rows zeros).rest none (start_plane shipped_drawing plan) g
      ∙ ap₂ (λ p cells. driven (due_of_streams p cells rows) (start_plane shipped_drawing plan) g) k.table.period (bare_in_cells plan k.bare flat 1 ports k.table)

  module _ (shown : ShowsByItself shipped_drawing loaded) (runs : ShowsFlatRuns (start_plane shipped_drawing plan) ports flat) (table : Ports) (t : IsTableOf flat loaded 1 table)
      (all : List (List Bool)) (after : ThenZeros rows all) (are : AreFlatRows flat all) (run : ℕ → ℕ → Bool) (is_run : IsFlatRun flat (start_bits flat) all run) where
    abbrev plane : Plane
    plane = drawn_plane shipped_drawing loaded

    heads_shown : ShowsOutputsByItself plane table (length all) (λ t. flat_output_bit flat (run t))
    heads_shown output cell e g early =
        let at = out_at table t output cell e in
        let own = own_out output at.0 in
        let bits : ℕ → Bool = λ t. flat_output_bit flat (run t) output in
        let same_p : ports.p ≡ table.p = k.table.period ∙ sym t.period in
        let same_l : ports.l ≡ table.l = k.table.latency ∙ sym t.latency in
        let soon : g < ports.l + length all * ports.p = subst (λ n. g < n) (ap₂ (λ l p. l + length all * p) (sym same_l) (sym same_p)) early in
        let own_shown : ShowsBitsFrom ports.l ports.p (length all) bits g (driven (drive ports all) (start_plane shipped_drawing plan) g) (get_or ports.outs output no_port).x (get_or ports.outs output no_port).y =
        runs.heads all are run is_run output (get_or ports.outs output no_port) own.0 g soon in
        let at_cell = subst (λ (c : ℕ × ℕ). ShowsBitsFrom ports.l ports.p (length all) bits g (driven (drive ports all) (start_plane shipped_drawing plan) g) c.0 c.1) own.1 own_shown in
        let on_plane = subst (λ (p : Plane). ShowsBitsFrom ports.l ports.p (length all) bits g p (left_of plan (length plan.columns)) (row_of (slice_index plan.outs output))) (same_plane all after g) at_cell in
        let in_time = subst (λ p. ShowsBitsFrom table.l p (length all) bits g (driven (drive_of_rows loaded rows) (start_plane shipped_drawing loaded) g) (left_of plan (length plan.columns)) (row_of (slice_index plan.outs output))) same_p
        (subst (λ l. ShowsBitsFrom l ports.p (length all) bits g (driven (drive_of_rows loaded rows) (start_plane shipped_drawing loaded) g) (left_of plan (length plan.columns)) (row_of (slice_index plan.outs output))) same_l on_plane) in
        let moved : ShowsBitsFrom table.l table.p (length all) bits g (evolve g plane) (32 * tape_shift loaded + left_of plan (length plan.columns)) (row_of (slice_index plan.outs output)) =
        both (shown.outs output at.0 g) in_time in
        subst (λ (c : ℕ × ℕ). ShowsBitsFrom table.l table.p (length all) bits g (evolve g plane) c.0 c.1) (sym at.1) moved

    nets_shown : ShowsNetLinesByItself plane table (length all) (listed_nets flat) (λ t net. run t net.class)
    nets_shown number net line is_net is_line g early =
        let at = net_at table t number line is_line in
        let own = own_net number at.0 in
        let cell = net_cell_of plan number in
        let bits : ℕ → Bool = λ t. run t net.class in
        let same_p : ports.p ≡ table.p = k.table.period ∙ sym t.period in
        let offset : line.offset ≡ cell.2 = ap (λ (c : ℕ × ℕ × ℕ). c.2) at.1 in
        let own_offset : (get_or ports.nets number no_line).offset ≡ cell.2 = ap (λ (c : ℕ × ℕ × ℕ). c.2) own.1 in
        let soon : g < (get_or ports.nets number no_line).offset + length all * ports.p = subst (λ n. g < n) (ap₂ (λ o p. o + length all * p) (offset ∙ sym own_offset) (sym same_p)) early in
        let own_shown = runs.nets all are run is_run number net (get_or ports.nets number no_line) is_net own.0 g soon in
        let at_cell = subst (λ (c : ℕ × ℕ × ℕ). ShowsBitsFrom c.2 ports.p (length all) bits g (driven (drive ports all) (start_plane shipped_drawing plan) g) c.0 c.1) own.1 own_shown in
        let on_plane = subst (λ (p : Plane). ShowsBitsFrom cell.2 ports.p (length all) bits g p cell.0 cell.1) (same_plane all after g) at_cell in
        let in_time = subst (λ p. ShowsBitsFrom cell.2 p (length all) bits g (driven (drive_of_rows loaded rows) (start_plane shipped_drawing loaded) g) cell.0 cell.1) same_p on_plane in
        let moved : ShowsBitsFrom cell.2 table.p (length all) bits g (evolve g plane) (moved_east (tape_shift loaded) cell).0 (moved_east (tape_shift loaded) cell).1 = both (shown.nets number at.0 g) in_time in
        subst (λ (c : ℕ × ℕ × ℕ). ShowsBitsFrom c.2 table.p (length all) bits g (evolve g plane) c.0 c.1) (sym at.1) moved

  -- a run on the rows of the tape that goes on without end
  onward : AreFlatRows flat rows → (run : ℕ → ℕ → Bool) × IsFlatRunOnward flat rows run
  onward are =
      let found = goes_on flat k.sound k.order k.ordered (start_bits flat) (length-map flat.latches _) rows are in
      (found.0, λ all after fit. is_run found.0 found.1 all after fit)
    where
      is_run : (run : ℕ → ℕ → Bool) → ((t : ℕ) → IsFlatValuation flat (row_onward flat rows t) (flat_state_in flat (start_bits flat) run t) (run t)) → (all : List (List Bool)) → ThenZeros rows all → AreFlatRows flat all → IsFlatRun flat (start_bits flat) all run
      is_run run solves all (zeros, none, is) fit t given e =
          let wide : AreFlatRows flat (rows ++ zeros) = subst (AreFlatRows flat) is fit in
          let row : row_onward flat rows t ≡ given =
          sym (row_of_all flat rows zeros none wide t) ∙ ap (λ (r : List (List Bool)). row_onward flat r t) (sym is) ∙ get_or_from_slice_get all t given (replicate (length flat.ins) false) e in
          subst (λ (r : List Bool). IsFlatValuation flat r (flat_state_in flat (start_bits flat) run t) (run t)) row (solves t)

  -- no input is named
  no_inputs : (table : Ports) → IsTableOf flat loaded 1 table → table.ins ≡ []
  no_inputs table t = no_ins table.ins (t.in_cells ∙ by bits plan.ins each)
    where
      by : (lists : List (List Bool)) (ins : List ℕ) → length lists ≡ length ins
          → (if length lists == 0 then map (lane_cell (32 * tape_shift loaded + left_of plan 0)) ins else []) ≡ []
      by [] [] many = refl
      by [] (lane ∷ ins) many = absurd (omega (arith, many))
      by (first ∷ lists) ins many =
          let no : (suc (length lists) == 0) ≡ false = grind (arith, nat_tests) in
          cond-false (suc (length lists) == 0) (map (lane_cell (32 * tape_shift loaded + left_of plan 0)) ins) [] no

pub tapes_run_by_themselves : TapesRunByThemselves
tapes_run_by_themselves flat list plan ports k s edges bits each lists table t =
    let h = admissible flat list plan ports k s edges bits each lists in
    let tape = with_tape bits plan in
    let picture = patterns_are_planes tape h in
    let size = small_size tape h in
    let read = tables_are_readable flat tape 1 table k.sound.in_range k.named k.names k.places h (one_has_room tape) t in
    let reads = written_text (start_grid tape) table (record { in_rows = picture.box; width = omega (arith, size.0); height = omega (arith, size.1) }) read.sound read.inside in
    let by_itself = shows_by_itself shipped_drawing shipped_keeps_law tape h h.tape edges in
    let runs = planes_show_runs shipped_drawing shipped_keeps_law flat list plan ports k s in
    let fit : AreFlatRows flat (tape_rows tape) = rows_wide flat tape (each ∙ (plans_have_ports flat list plan k.list_computes k.plan_computes).ins) in
    record {
      grid = start_grid tape;
      ports = table;
      spells = record { reads = reads.0; table = reads.1 };
      contexts = t.contexts;
      no_inputs = no_inputs flat list plan ports k s edges bits each lists table t;
      outs = t.out_names;
      nets = t.net_names;
      rows_fit = fit;
      shows = subst (λ (p : Plane). ShowsFlatRunsByItself p table flat (tape_rows tape)) (sym picture.plane) (record {
        run = onward flat list plan ports k s edges bits each lists fit;
        heads = heads_shown flat list plan ports k s edges bits each lists by_itself runs table t;
        nets = nets_shown flat list plan ports k s edges bits each lists by_itself runs table t;
      });
    }

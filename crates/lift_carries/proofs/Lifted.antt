-- A text that spells the drawing of a plan carries the netlist that is lifted of it.
use Rattle.std.proofs.Common.{◌≡◌, refl, sym, ◌∙◌, ap, ap₂, subst, pos, ℕ, zero, suc, ◌+◌, ◌-◌, ◌*◌, ◌<◌, ◌≤◌, ◌^◌, Bool, true, false, cond, List, [], ◌∷◌, ◌++◌, length, get_or, arith}
use Rattle.std.specs.Prelude.{◌↔◌, Some, slice_get, slice_index}
use Rattle.std.proofs.lemmas.List.{append-nil, length-map, get_or-map}
use Rattle.std.proofs.lemmas.List.Elements.{All-get_or}
use Rattle.std.proofs.lemmas.List.FromFn.{length-map-range_with_len}
use Rattle.std.proofs.lemmas.Option.{get_or_from_slice_get, slice_get_within, slice_get-get_or}
use Rattle.ww_rule.specs.declared.pattern.State.TheVariants.{Head}
use Rattle.ww_rule.specs.Wireworld.{driven}
use Rattle.ww_rule.specs.Grid.{Grid, plane_of}
use Rattle.ww_rule.specs.Injections.{MeetsConductors}
use Rattle.ww_rule.specs.Contexts.{due_of_contexts}
use Rattle.ww_rule.proofs.Contexts.{contexts_are_injected}
use Rattle.tile_library.specs.Drawings.{shipped_drawing}
use Rattle.tile_library.proofs.Kept.{shipped_keeps_law}
use Rattle.lane_core.specs.declared.plan.Plan.{Plan}
use Rattle.lane_core.specs.Instrs.{bit_on}
use Rattle.lane_core.specs.Columns.{after_columns}
use Rattle.lane_core.specs.Plans.{left_of, row_of, latency_of, period_of}
use Rattle.lane_core.specs.Entering.{first_loop_lane, row_bits, entry_bits, leaving}
use Rattle.plan_layout.specs.Starts.{start_edges}
use Rattle.plan_layout.specs.Planes.{start_plane}
use Rattle.plan_layout.proofs.Bare.{bare}
use Rattle.plan_waves.specs.ShownContexts.{ShowsContextBits}
use Rattle.plan_waves.specs.ContextRows.{drive_of_contexts, bits_of_context_rows}
use Rattle.plan_waves.proofs.ContextRows.{plans_show_context_rows}
use Rattle.grid_assembly.proofs.Pattern.{patterns_are_planes}
use Rattle.cell_core.specs.declared.list.CellList.{CellList}
use Rattle.cell_core.specs.Meaning.{Fits}
use Rattle.cell_core.specs.Loops.{names_one, loop_state}
use Rattle.cell_meaning.specs.Computes.{ComputesByPlan}
use Rattle.pattern_reading.specs.declared.ports.PortLine.{PortLine}
use Rattle.pattern_reading.specs.declared.ports.Ports.{Ports}
use Rattle.pattern_reading.specs.Ports.{cells_of, names_of}
use Rattle.port_table.proofs.SoundTable.{sound_table}
use Rattle.netlist_core.specs.Names.{Name}
use Rattle.netlist_core.specs.declared.model.Design.{Design}
use Rattle.netlist_meaning.specs.Valuation.{Valuation, LatchState, AreInputRows, IsRun, IsValuation, start_state, latches_in, output_bit}
use Rattle.flat_designs.specs.Laws.{state_in_order}
use Rattle.carries.specs.Cells.{ShowsBitsFrom, ShowsOutputs, drive}
use Rattle.carries.specs.Carries.{ShowsRuns}
use Rattle.circuit_plans.specs.Circuits.{IsCircuit, first_bits, without_nets}
use Rattle.circuit_plans.specs.Lifted.{entry_lanes, lift_columns, source_on}
use Rattle.circuit_plans.specs.Lists.{IsListOf}
use Rattle.circuit_plans.proofs.Whole.{computes_bare, is_plain}
use Rattle.plan_carries.proofs.Carried.{in_contexts}
use Rattle.lifted_designs.specs.Computes.{ComputesDesign}
use Rattle.lifted_designs.specs.Lifted.{lifted_design}
use Rattle.lifted_designs.proofs.Lifted.{ins_are, lists_compute, names_at}
use Rattle.lifted_designs.proofs.Runs.{lifted_have_runs}
use Rattle.tile_match.specs.Circuit.{HasBoxAndPorts}
use Rattle.lift_carries.specs.Lifts.{LiftsCarry}
use Rattle.lift_carries.proofs.PortNames.{are_port_names}
use Rattle.lift_carries.proofs.Starts.{circuit_on_loops}

-- what shows a bit in each cycle of one context shows it in the first cycles
in_cycles : (period first cycles g : ℕ) (head : Type 0) (shown : ℕ → ℕ → Bool) (bit : ℕ → Bool) → ((t : ℕ) → t < cycles → shown 0 t ≡ bit t) → g < first + cycles * period
    → (head ↔ ((c : ℕ) × (t : ℕ) × (c < 1) × (g ≡ first + 32 * c + t * period) × (shown c t ≡ true)))
    → (head ↔ ((t : ℕ) × (t < cycles) × (g ≡ first + t * period) × (bit t ≡ true)))
in_cycles period first cycles g head shown bit same early is = one (in_contexts period first 1 cycles g head shown (λ c t. bit t) by_context early is)
  where
    by_context : (c t : ℕ) → c < 1 → t < cycles → shown c t ≡ bit t
    by_context zero t low lt = same t lt
    by_context (suc c) t low lt = absurd (omega (arith, low))

    one : (head ↔ ((c : ℕ) × (t : ℕ) × (c < 1) × (t < cycles) × (g ≡ first + 32 * c + t * period) × (bit t ≡ true)))
        → (head ↔ ((t : ℕ) × (t < cycles) × (g ≡ first + t * period) × (bit t ≡ true)))
    one all = (
      λ h. (let f = all.0 h in let none : f.0 ≡ 0 = omega (arith, f.2) in (f.1, f.3, omega (arith, f.4, none), f.5)),
      λ b. all.1 (0, b.0, omega arith, b.1, omega (arith, b.2), b.3),
    )

-- a run on rows, of a list that computes the design, and of a plan whose list it is
module _ (design : Design) (list : CellList) (plan : Plan) (d : ComputesDesign list design) (c : ComputesByPlan list (without_nets plan)) (starts : list.starts ≡ first_bits plan) (plain : names_one list ≡ false)
    (rows : List (List Bool)) (are : AreInputRows design rows) (run : ℕ → Valuation) (is : IsRun design rows run) where
  abbrev free : ℕ
  free = first_loop_lane plan.lanes plan.latches

  abbrev row : ℕ → List Bool
  row t = get_or rows t []

  abbrev latches : ℕ → LatchState
  latches t = latches_in design (start_state design) run t

  abbrev state : ℕ → List Bool
  state t = state_in_order design (latches t)

  -- what enters the columns in a cycle
  abbrev entering : ℕ → List Bool
  entering t = bits_of_context_rows plan (first_bits plan ∷ []) (rows ∷ []) 0 t

  solves : (t : ℕ) → t < length rows → IsValuation design (row t) (latches t) (run t)
  solves t lt = is t (row t) (slice_get-get_or rows t [] lt)

  fits : (t : ℕ) → t < length rows → Fits list (row t) (state t)
  fits t lt = let (names, named, long) = are in record { row = All-get_or (λ r. length r ≡ length names) rows t [] lt long ∙ d.inputs names named; latches = d.state (latches t) }

  -- no loop is that of constant 1
  whole : (bits : List Bool) → loop_state list bits ≡ bits
  whole bits = ap (λ b. bits ++ cond b (true ∷ []) []) plain ∙ append-nil bits

  -- the row's bits, and on the loops the state of the latches
  enters : (t : ℕ) → t ≤ length rows → entering t ≡ entry_bits free plan.ins (row t) (loop_state list (state t))
  enters zero h = ap (λ s. row_bits free plan.ins (row 0) ++ s) (sym starts ∙ d.starts ∙ sym (whole (state 0)))
  enters (suc t) h =
      ap (λ bits. row_bits free plan.ins (row (suc t)) ++ leaving free (after_columns plan.columns bits)) (enters t (omega arith))
      ∙ ap (λ s. row_bits free plan.ins (row (suc t)) ++ s) (c.bits.loops_leave (row t) (state t) (fits t (omega arith)))
      ∙ ap (λ s. row_bits free plan.ins (row (suc t)) ++ loop_state list s) (d.latch_data (row t) (latches t) (run t) (solves t (omega arith)))

  -- an output's bit is the one on its lane
  output_shown : (i t : ℕ) → i < length plan.outs → t < length rows
      → bit_on (after_columns plan.columns (entering t)) (slice_index plan.outs i) ≡ output_bit design (run t) i
  output_shown i t within lt =
      ap (λ bits. bit_on (after_columns plan.columns bits) (slice_index plan.outs i)) (enters t (omega arith))
      ∙ sym (get_or-map (bit_on (after_columns plan.columns (entry_bits free plan.ins (row t) (loop_state list (state t))))) plan.outs i 0 false within)
      ∙ ap (λ bits. get_or bits i false) (c.bits.outs_have (row t) (state t) (fits t lt))
      ∙ ap (λ bits. get_or bits i false) (d.outs (row t) (latches t) (run t) (solves t lt))

-- where the cell of an output is
abbrev out_place : Plan → ℕ → ℕ × ℕ
out_place plan lane = (left_of plan (length plan.columns), row_of lane)

abbrev line_place : PortLine → ℕ × ℕ
line_place line = (line.x, line.y)

abbrev line_name : PortLine → List ℕ
line_name line = line.name

module _ (width height : ℕ) (ports : Ports) (plan : Plan) (has : HasBoxAndPorts width height ports plan) where
  same_drive : (rows : List (List Bool)) → drive ports rows ≡ drive_of_contexts plan (rows ∷ [])
  same_drive rows = sym (contexts_are_injected.one ports.p (cells_of ports.ins) rows) ∙ ap₂ (λ p cells. due_of_contexts p cells (rows ∷ [])) has.period has.in_cells

  many_ins : length ports.ins ≡ length plan.ins
  many_ins = sym (length-map ports.ins line_place) ∙ ap length has.in_cells ∙ length-map plan.ins _

  pub many_outs : length ports.outs ≡ length plan.outs
  many_outs = sym (length-map ports.outs line_place) ∙ ap length has.out_cells ∙ length-map plan.outs (out_place plan)

  cell_is : (output : ℕ) (cell : PortLine) → slice_get ports.outs output ≡ Some cell
      → (output < length plan.outs) × (line_place cell ≡ out_place plan (slice_index plan.outs output))
  cell_is output cell e =
      let low : output < length ports.outs = slice_get_within ports.outs output cell e in
      let within : output < length plan.outs = omega (arith, low, many_outs) in (
        within,
        ap line_place (sym (get_or_from_slice_get ports.outs output cell cell e))
            ∙ sym (get_or-map line_place ports.outs output cell (0, 0) low)
            ∙ ap (λ cells. get_or cells output (0, 0)) has.out_cells
            ∙ get_or-map (out_place plan) plan.outs output 0 (0, 0) within,
      )

  -- the list of the plan has an input for each IN line, and an output for each OUT line
  module _ (list : CellList) (cells : IsListOf plan list) where
    pub named_ins : length (names_of ports.ins) ≡ list.inputs
    named_ins = length-map ports.ins line_name ∙ many_ins ∙ sym cells.inputs

    pub named_outs : length (names_of ports.outs) ≡ length list.outs
    named_outs =
        length-map ports.outs line_name
        ∙ many_outs
        ∙ sym (length-map plan.outs (source_on (lift_columns (entry_lanes plan) plan.columns).sources))
        ∙ sym (ap length cells.outs)

pub loop_count_is : (plan : Plan) (list : CellList) → IsListOf plan list → length list.latches ≡ plan.latches
loop_count_is plan list cells =
    ap length cells.latches ∙ length-map-range_with_len (λ number. source_on (lift_columns (entry_lanes plan) plan.columns).sources (plan.lanes - 1 - number)) 0 plan.latches

-- the plane of a circuit shows the runs of a design that its list computes
module _ (width height : ℕ) (ports : Ports) (plan : Plan) (has : HasBoxAndPorts width height ports plan) (circuit : IsCircuit plan)
    (design : Design) (list : CellList) (cells : IsListOf plan list) (d : ComputesDesign list design) where
  shows : (rows : List (List Bool))
      → ShowsContextBits shipped_drawing plan (start_edges plan) (drive_of_contexts plan (rows ∷ [])) 1 (bits_of_context_rows plan (first_bits plan ∷ []) (rows ∷ []))
  shows rows = plans_show_context_rows shipped_drawing shipped_keeps_law plan circuit.admissible (first_bits plan ∷ []) (start_edges plan) (circuit_on_loops plan circuit) (rows ∷ []) refl

  conductors : (rows : List (List Bool)) → AreInputRows design rows → MeetsConductors (drive ports rows) (start_plane shipped_drawing plan)
  conductors rows are = subst (λ due. MeetsConductors due (start_plane shipped_drawing plan)) (sym (same_drive width height ports plan has rows)) (shows rows).conductors

  heads : (rows : List (List Bool)) → AreInputRows design rows → (run : ℕ → Valuation) → IsRun design rows run
      → ShowsOutputs (start_plane shipped_drawing plan) ports rows (λ t. output_bit design (run t))
  heads rows are run is output cell e g early =
      let place = cell_is width height ports plan has output cell e in
      let bits : ℕ → Bool = λ t. output_bit design (run t) output in
      let soon : g < latency_of plan + length rows * period_of plan = subst (λ n. g < n) (ap₂ (λ l p. l + length rows * p) has.latency has.period) early in
      let shown = in_cycles (period_of plan) (latency_of plan) (length rows) g
      (driven (drive_of_contexts plan (rows ∷ [])) (start_plane shipped_drawing plan) g (pos (left_of plan (length plan.columns))) (pos (row_of (slice_index plan.outs output))) ≡ Head)
      (λ c t. bit_on (after_columns plan.columns (bits_of_context_rows plan (first_bits plan ∷ []) (rows ∷ []) c t)) (slice_index plan.outs output)) bits
      (λ t lt. output_shown design list plan d (computes_bare plan circuit.admissible list cells) cells.starts (is_plain plan list cells) rows are run is output t place.0 lt)
      soon ((shows rows).outs output place.0 g) in
      subst (λ due. ShowsBitsFrom ports.l ports.p (length rows) bits g (driven due (start_plane shipped_drawing plan) g) cell.x cell.y) (sym (same_drive width height ports plan has rows))
      (subst (λ l. ShowsBitsFrom l ports.p (length rows) bits g (driven (drive_of_contexts plan (rows ∷ [])) (start_plane shipped_drawing plan) g) cell.x cell.y) (sym has.latency)
      (subst (λ p. ShowsBitsFrom (latency_of plan) p (length rows) bits g (driven (drive_of_contexts plan (rows ∷ [])) (start_plane shipped_drawing plan) g) cell.x cell.y) (sym has.period)
      (subst (λ (at : ℕ × ℕ). ShowsBitsFrom (latency_of plan) (period_of plan) (length rows) bits g (driven (drive_of_contexts plan (rows ∷ [])) (start_plane shipped_drawing plan) g) at.0 at.1) (sym place.1) shown)))

pub lifts_carry : LiftsCarry
lifts_carry text grid ports plan list l = record {
  grid = grid;
  ports = ports;
  spells = l.spells;
  contexts = has.contexts;
  names = record { ins = ins_are list ins outs long wide plain; outs = sym (names_at 3 outs) };
  shows = subst (λ p. ShowsRuns p ports (lifted_design ins outs list)) (sym plane) (record {
    conductors = conductors grid.width grid.height ports plan has circuit (lifted_design ins outs list) list l.cells computes;
    runs = lifted_have_runs list ins outs long wide plain (are_port_names ports (sound_table text grid.width grid.height ports l.spells.table) l.names) l.few_cells few_latches;
    heads = heads grid.width grid.height ports plan has circuit (lifted_design ins outs list) list l.cells computes;
  });
}
  where
    has : HasBoxAndPorts grid.width grid.height ports plan
    has = l.drawing.ports

    circuit : IsCircuit plan
    circuit = l.drawing.circuit

    ins : List Name
    ins = names_of ports.ins

    outs : List Name
    outs = names_of ports.outs

    long : length (names_of ports.ins) ≡ list.inputs
    long = named_ins grid.width grid.height ports plan has list l.cells

    wide : length (names_of ports.outs) ≡ length list.outs
    wide = named_outs grid.width grid.height ports plan has list l.cells

    plain : names_one list ≡ false
    plain = is_plain plan list l.cells

    computes : ComputesDesign list (lifted_design (names_of ports.ins) (names_of ports.outs) list)
    computes = lists_compute list (names_of ports.ins) (names_of ports.outs) long wide plain

    few_latches : length list.latches < 2 ^ 64
    few_latches = omega (arith, loop_count_is plan list l.cells, circuit.admissible.size.lanes, circuit.admissible.size.loops_on_lanes)

    plane : plane_of grid.rows ≡ start_plane shipped_drawing plan
    plane = ap (λ (g : Grid). plane_of g.rows) l.drawing.drawn ∙ (patterns_are_planes plan circuit.admissible).plane ∙ (bare plan circuit.no_tape).plane shipped_drawing

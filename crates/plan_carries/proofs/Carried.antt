-- The plane of a plan that computes a list of cells, which computes a flat netlist, shows the netlist's runs in each context.
use Rattle.std.proofs.Common.{◌≡◌, ◌↔◌, refl, sym, ◌∙◌, ap, ap₂, subst, pos, ℕ, zero, suc, ◌+◌, ◌*◌, ◌<◌, ◌≤◌, Bool, true, false, ⊎_elim, List, [], ◌∷◌, ◌++◌, length, map, get_or, arith}
use Rattle.std.specs.Prelude.{Option, Some, None, slice_get, slice_index}
use Rattle.std.proofs.lemmas.Bool.{cases_lt}
use Rattle.std.proofs.lemmas.List.{length-map, get_or-map}
use Rattle.std.proofs.lemmas.List.Elements.{All-get_or, All-nil, All-cons}
use Rattle.std.proofs.lemmas.Option.{slice_get-get_or, slice_get_within, get_or_from_slice_get, none-some, same_Some}
use Rattle.std.proofs.lemmas.Simd.{map-map}
use Rattle.std.proofs.Math.Nat.{mul-le-mul_right}
use Rattle.ww_rule.specs.declared.pattern.State.TheVariants.{Head}
use Rattle.ww_rule.specs.Wireworld.{driven}
use Rattle.ww_rule.specs.Injections.{MeetsConductors}
use Rattle.ww_rule.specs.Contexts.{due_of_contexts}
use Rattle.tile_core.specs.declared.kind.Kind.{Kind}
use Rattle.tile_core.specs.Drawing.{Drawing}
use Rattle.tiling.specs.Tiling.{Lit}
use Rattle.tiling.specs.Steps.{KeepsLaw}
use Rattle.lane_core.specs.declared.plan.NetPlace.{NetPlace}
use Rattle.lane_core.specs.declared.plan.Plan.{Plan}
use Rattle.lane_core.specs.Instrs.{bit_on}
use Rattle.lane_core.specs.Columns.{after_columns}
use Rattle.lane_core.specs.Plans.{left_of, row_of, latency_of, period_of, net_place, net_cell_of, cell_after}
use Rattle.lane_core.specs.Entering.{first_loop_lane, row_bits, entry_bits, leaving, entering_bits, bits_after}
use Rattle.plan_layout.specs.Starts.{start_edges}
use Rattle.plan_layout.specs.Planes.{plane_with, start_plane}
use Rattle.plan_waves.specs.Contexts.{StartsContexts}
use Rattle.plan_waves.specs.ShownContexts.{ShowsContextBits}
use Rattle.plan_waves.specs.ContextRows.{drive_of_contexts, bits_of_context_rows}
use Rattle.plan_waves.proofs.ContextRows.{plans_show_context_rows}
use Rattle.cell_core.specs.declared.list.CellList.{CellList}
use Rattle.cell_core.specs.Meaning.{Fits}
use Rattle.cell_core.specs.Loops.{loop_state}
use Rattle.cell_meaning.specs.Computes.{ComputesByPlan}
use Rattle.pattern_reading.specs.declared.ports.PortLine.{PortLine}
use Rattle.pattern_reading.specs.declared.ports.NetLine.{NetLine}
use Rattle.pattern_reading.specs.declared.ports.Ports.{Ports}
use Rattle.netlist_core.specs.declared.flat.Flat.{Flat}
use Rattle.netlist_core.specs.declared.flat.FlatPort.{FlatPort}
use Rattle.netlist_core.specs.declared.flat.Net.{Net as FlatNet}
use Rattle.netlist_meaning.specs.Flat.{class_of, listed_nets}
use Rattle.netlist_meaning.specs.FlatValuation.{AreFlatRows, IsFlatRun, start_bits, flat_state_in, flat_output_bit}
use Rattle.cell_meaning.specs.Mapped.{HasBits}
use Rattle.carries.specs.Contexts.{AreRunsFrom, context_drive, ShowsBitsInContexts, ShowsOutputsInContexts, ShowsNetLinesInContexts}
use Rattle.carries.specs.FlatContexts.{AreFlatContexts}
use Rattle.carries.proofs.OneContext.{flat_from_contexts}
use Rattle.plan_ports.specs.Tables.{IsTableOf}
use Rattle.plan_ports.proofs.GatheredNets.{place_of_line}
use Rattle.plan_carries.specs.Compiled.{ComputesFlat, IsCompiled}
use Rattle.plan_carries.specs.Laws.{StartsAsFlat, PlanesShowRuns}
use Rattle.plan_carries.specs.ContextLaws.{StartsLatches, PlanesShowContexts}
use Rattle.plan_carries.proofs.Bare.{bare_in_cells, bare_out_cells, bare_net_cells}
use Rattle.plan_carries.proofs.Runs.{state_long, has_run}

-- what shows a bit in each cycle of each context shows it in the first cycles
pub in_contexts : (period first count cycles g : ℕ) (head : Type 0) (shown bit : ℕ → ℕ → Bool) → ((c t : ℕ) → c < count → t < cycles → shown c t ≡ bit c t) → g < first + cycles * period
    → (head ↔ ((c : ℕ) × (t : ℕ) × (c < count) × (g ≡ first + 32 * c + t * period) × (shown c t ≡ true)))
    → (head ↔ ((c : ℕ) × (t : ℕ) × (c < count) × (t < cycles) × (g ≡ first + 32 * c + t * period) × (bit c t ≡ true)))
in_contexts period first count cycles g head shown bit same early is = (
  λ h. (let found = is.0 h in
      let soon : found.1 < cycles = below found.0 found.1 found.3 in
      (found.0, found.1, found.2, soon, found.3, sym (same found.0 found.1 found.2 soon) ∙ found.4)),
  λ b. is.1 (b.0, b.1, b.2, b.4, same b.0 b.1 b.2 b.3 ∙ b.5),
)
  where
    below : (c t : ℕ) → g ≡ first + 32 * c + t * period → t < cycles
    below c t e =
        ⊎_elim
        (λ lt. lt)
        (λ ge. (let more : cycles * period ≤ t * period = mul-le-mul_right period ge in absurd (omega (arith, early, e, more))))
        (cases_lt t cycles)

pub same_drive : (flat : Flat) (plan : Plan) (n : ℕ) (ports : Ports) → IsTableOf flat plan n ports → plan.tape ≡ [] → (contexts : List (List (List Bool))) → context_drive ports contexts ≡ drive_of_contexts plan contexts
same_drive flat plan n ports table none contexts = ap₂ (λ p cells. due_of_contexts p cells contexts) table.period (bare_in_cells plan none flat n ports table)

-- a run on rows from a start on, of a list that computes the flat netlist and a plan that computes the list
module _ (flat : Flat) (list : CellList) (plan : Plan) (f : ComputesFlat flat list) (c : ComputesByPlan list plan)
    (start : List Bool) (long : length start ≡ length flat.latches)
    (rows : List (List Bool)) (are : AreFlatRows flat rows) (run : ℕ → ℕ → Bool) (is : IsFlatRun flat start rows run) where
  abbrev free : ℕ
  free = first_loop_lane plan.lanes plan.latches

  abbrev row : ℕ → List Bool
  row t = get_or rows t []

  abbrev state : ℕ → List Bool
  state t = flat_state_in flat start run t

  -- what enters the columns in a cycle
  abbrev pub entering_run : ℕ → List Bool
  entering_run t = entering_bits free plan.columns (λ i. row_bits free plan.ins (row i)) (loop_state list start) t

  has : (t : ℕ) → t < length rows → HasBits flat list (row t) (state t) (run t)
  has t lt = f.bits (row t) (state t) (run t) (is t (row t) (slice_get-get_or rows t [] lt))

  fits : (t : ℕ) → t < length rows → Fits list (row t) (state t)
  fits t lt = record {
    row = All-get_or (λ r. length r ≡ length flat.ins) rows t [] lt are ∙ sym f.mapped.inputs;
    latches = state_long flat start run t long ∙ sym (length-map flat.latches _) ∙ ap length (sym f.mapped.starts);
  }

  -- the row's bits, and on the loops the state of the latches
  enters : (t : ℕ) → t ≤ length rows → entering_run t ≡ entry_bits free plan.ins (row t) (loop_state list (state t))
  enters zero h = refl
  enters (suc t) h =
      ap (λ bits. row_bits free plan.ins (row (suc t)) ++ leaving free (after_columns plan.columns bits)) (enters t (omega arith))
      ∙ ap (λ s. row_bits free plan.ins (row (suc t)) ++ s) (c.bits.loops_leave (row t) (state t) (fits t (omega arith)))
      ∙ ap (λ s. row_bits free plan.ins (row (suc t)) ++ loop_state list s) (has t (omega arith)).latches

  -- an output's bit is the one on its lane
  pub output_shown : (i t : ℕ) → i < length plan.outs → t < length rows
      → bit_on (after_columns plan.columns (entering_run t)) (slice_index plan.outs i) ≡ flat_output_bit flat (run t) i
  output_shown i t within lt =
      ap (λ bits. bit_on (after_columns plan.columns bits) (slice_index plan.outs i)) (enters t (omega arith))
      ∙ sym (get_or-map (bit_on (after_columns plan.columns (entry_bits free plan.ins (row t) (loop_state list (state t))))) plan.outs i 0 false within)
      ∙ ap (λ bits. get_or bits i false) (c.bits.outs_have (row t) (state t) (fits t lt))
      ∙ ap (λ bits. get_or bits i false) (has t lt).outs
      ∙ ap (λ bits. get_or bits i false) (map-map (run t) (λ (port : FlatPort). class_of flat port.net) flat.outs)

  -- and so is a net's, after the column of its place
  pub net_shown : (i t : ℕ) (net : FlatNet) → i < length plan.nets → t < length rows → slice_get (listed_nets flat) i ≡ Some net
      → bit_on (bits_after after_columns plan.columns (net_place plan i).after (entering_run t)) (net_place plan i).lane ≡ run t net.class
  net_shown i t net within lt is_net =
      ap (λ bits. bit_on (bits_after after_columns plan.columns (net_place plan i).after bits) (net_place plan i).lane) (enters t (omega arith))
      ∙ sym (get_or-map (λ (place : NetPlace). bit_on (bits_after after_columns plan.columns place.after (entry_bits free plan.ins (row t) (loop_state list (state t)))) place.lane) plan.nets i (record { lane = 0; after = None }) false within)
      ∙ ap (λ bits. get_or bits i false) (c.bits.nets_have (row t) (state t) (fits t lt))
      ∙ ap (λ bits. get_or bits i false) (has t lt).nets
      ∙ ap (λ bits. get_or bits i false) (map-map (run t) (λ (net : FlatNet). net.class) (listed_nets flat))
      ∙ get_or-map (λ (net : FlatNet). run t net.class) (listed_nets flat) i net false (slice_get_within (listed_nets flat) i net is_net)
      ∙ ap (λ (net : FlatNet). run t net.class) (get_or_from_slice_get (listed_nets flat) i net net is_net)

-- where the cell of an output is
abbrev out_place : Plan → ℕ → ℕ × ℕ
out_place plan lane = (left_of plan (length plan.columns), row_of lane)

abbrev line_place : PortLine → ℕ × ℕ
line_place line = (line.x, line.y)

cell_is : (flat : Flat) (plan : Plan) (n : ℕ) (ports : Ports) → IsTableOf flat plan n ports → plan.tape ≡ [] → (output : ℕ) (cell : PortLine) → slice_get ports.outs output ≡ Some cell
    → (output < length plan.outs) × (line_place cell ≡ out_place plan (slice_index plan.outs output))
cell_is flat plan n ports table none output cell e =
    let low : output < length ports.outs = slice_get_within ports.outs output cell e in
    let one : length (map line_place ports.outs) ≡ length ports.outs = length-map ports.outs line_place in
    let two : length (map (out_place plan) plan.outs) ≡ length plan.outs = length-map plan.outs (out_place plan) in
    let all : length (map line_place ports.outs) ≡ length (map (out_place plan) plan.outs) = ap length (bare_out_cells plan none flat n ports table) in
    let within : output < length plan.outs = omega (arith, low, one, two, all) in (
      within,
      ap line_place (sym (get_or_from_slice_get ports.outs output cell cell e))
          ∙ sym (get_or-map line_place ports.outs output cell (0, 0) low)
          ∙ ap (λ cells. get_or cells output (0, 0)) (bare_out_cells plan none flat n ports table)
          ∙ get_or-map (out_place plan) plan.outs output 0 (0, 0) within,
    )

abbrev net_cell : Plan → NetPlace → ℕ × ℕ × ℕ
net_cell plan place = cell_after plan place.lane place.after

-- where the cell of a net is
net_cell_is : (flat : Flat) (plan : Plan) (n : ℕ) (ports : Ports) → IsTableOf flat plan n ports → plan.tape ≡ [] → (number : ℕ) (line : NetLine) → slice_get ports.nets number ≡ Some line
    → (number < length plan.nets) × (place_of_line line ≡ net_cell_of plan number)
net_cell_is flat plan n ports table none number line e =
    let low : number < length ports.nets = slice_get_within ports.nets number line e in
    let one : length (map place_of_line ports.nets) ≡ length ports.nets = length-map ports.nets place_of_line in
    let two : length (map (net_cell plan) plan.nets) ≡ length plan.nets = length-map plan.nets (net_cell plan) in
    let all : length (map place_of_line ports.nets) ≡ length (map (net_cell plan) plan.nets) = ap length (bare_net_cells plan none flat n ports table) in
    let within : number < length plan.nets = omega (arith, low, one, two, all) in (
      within,
      ap place_of_line (sym (get_or_from_slice_get ports.nets number line line e))
          ∙ sym (get_or-map place_of_line ports.nets number line (0, 0, 0) low)
          ∙ ap (λ cells. get_or cells number (0, 0, 0)) (bare_net_cells plan none flat n ports table)
          ∙ get_or-map (net_cell plan) plan.nets number (record { lane = 0; after = None }) (0, 0, 0) within,
    )

-- the plane of what is compiled, with edges that start these contexts
module _ (library : Kind → Drawing) (law : KeepsLaw library) (flat : Flat) (list : CellList) (plan : Plan) (ports : Ports)
    (starts : List (List Bool)) (k : IsCompiled flat list plan (length starts) ports) (lit : Lit) (s : StartsLatches flat list plan starts lit) where
  abbrev on_loops : List (List Bool)
  on_loops = map (loop_state list) starts

  shows : (contexts : List (List (List Bool))) → length contexts ≡ length starts
      → ShowsContextBits library plan lit (drive_of_contexts plan contexts) (length contexts) (bits_of_context_rows plan on_loops contexts)
  shows contexts many =
      let all : length contexts ≡ length on_loops = many ∙ sym (length-map starts (loop_state list)) in
      subst (λ n. ShowsContextBits library plan lit (drive_of_contexts plan contexts) n (bits_of_context_rows plan on_loops contexts)) (sym all)
      (plans_show_context_rows library law plan k.admissible on_loops lit s.on_plan contexts all)

  long : (c : ℕ) (start : List Bool) → slice_get starts c ≡ Some start → length start ≡ length flat.latches
  long c start e =
      ap length (sym (get_or_from_slice_get starts c start start e)) ∙ All-get_or (λ (bits : List Bool). length bits ≡ length flat.latches) starts c start (slice_get_within starts c start e) s.long

  conductors : (cycles : ℕ) (contexts : List (List (List Bool))) → AreFlatContexts flat (length starts) cycles contexts → MeetsConductors (context_drive ports contexts) (plane_with library plan lit)
  conductors cycles contexts are =
      subst (λ due. MeetsConductors due (plane_with library plan lit)) (sym (same_drive flat plan (length starts) ports k.table k.bare contexts)) (shows contexts are.many).conductors

  has_runs : (cycles : ℕ) (contexts : List (List (List Bool))) → AreFlatContexts flat (length starts) cycles contexts → (runs : ℕ → ℕ → ℕ → Bool) × AreRunsFrom (IsFlatRun flat) starts contexts runs
  has_runs cycles contexts are = (λ c. (of c).0, λ c start e. (of c).1 start e)
    where
      by : (c : ℕ) (o : Option (List Bool)) → slice_get starts c ≡ o → (run : ℕ → ℕ → Bool) × ((start : List Bool) → slice_get starts c ≡ Some start → IsFlatRun flat start (get_or contexts c []) run)
      by c None none = (λ t class. false, λ start e. absurd (none-some start (sym none ∙ e)))
      by c (Some start) some =
          let low : c < length contexts = (let within = slice_get_within starts c start some in omega (arith, within, are.many)) in
          let r = has_run flat k.sound k.order k.ordered start (long c start some) (get_or contexts c []) (are.each c [] low) in
          (r.0, λ other e. subst (λ (bits : List Bool). IsFlatRun flat bits (get_or contexts c []) r.0) (same_Some start other (sym some ∙ e)) r.1)

      of : (c : ℕ) → (run : ℕ → ℕ → Bool) × ((start : List Bool) → slice_get starts c ≡ Some start → IsFlatRun flat start (get_or contexts c []) run)
      of c = by c (slice_get starts c) refl

  -- runs on rows in each context
  module _ (cycles : ℕ) (contexts : List (List (List Bool))) (are : AreFlatContexts flat (length starts) cycles contexts)
      (runs : ℕ → ℕ → ℕ → Bool) (each : AreRunsFrom (IsFlatRun flat) starts contexts runs) where
    abbrev start_of : ℕ → List Bool
    start_of c = get_or starts c []

    some_start : (c : ℕ) → c < length contexts → slice_get starts c ≡ Some (start_of c)
    some_start c low = slice_get-get_or starts c [] (omega (arith, low, are.many))

    -- what enters in a context is what enters in its run
    same_bits : (c t : ℕ) → c < length contexts → bits_of_context_rows plan on_loops contexts c t
        ≡ entering_bits (first_loop_lane plan.lanes plan.latches) plan.columns (λ i. row_bits (first_loop_lane plan.lanes plan.latches) plan.ins (get_or (get_or contexts c []) i [])) (loop_state list (start_of c)) t
    same_bits c t low =
        ap (λ (bits : List Bool). entering_bits (first_loop_lane plan.lanes plan.latches) plan.columns (λ i. row_bits (first_loop_lane plan.lanes plan.latches) plan.ins (get_or (get_or contexts c []) i [])) bits t)
        (get_or-map (loop_state list) starts c [] [] (omega (arith, low, are.many)))

    outputs_shown : ShowsOutputsInContexts (plane_with library plan lit) ports cycles contexts (λ c t. flat_output_bit flat (runs c t))
    outputs_shown output cell e g early =
        let place = cell_is flat plan (length starts) ports k.table k.bare output cell e in
        let bits : ℕ → ℕ → Bool = λ c t. flat_output_bit flat (runs c t) output in
        let soon : g < latency_of plan + cycles * period_of plan = subst (λ n. g < n) (ap₂ (λ l p. l + cycles * p) k.table.latency k.table.period) early in
        let shown = in_contexts (period_of plan) (latency_of plan) (length contexts) cycles g
        (driven (drive_of_contexts plan contexts) (plane_with library plan lit) g (pos (left_of plan (length plan.columns))) (pos (row_of (slice_index plan.outs output))) ≡ Head)
        (λ c t. bit_on (after_columns plan.columns (bits_of_context_rows plan on_loops contexts c t)) (slice_index plan.outs output)) bits
        (λ c t low lt. ap (λ b. bit_on (after_columns plan.columns b) (slice_index plan.outs output)) (same_bits c t low)
        ∙ output_shown flat list plan k.list_computes k.plan_computes (start_of c) (long c (start_of c) (some_start c low)) (get_or contexts c []) (are.each c [] low) (runs c) (each c (start_of c) (some_start c low))
        output t place.0 (omega (arith, lt, are.long c [] low)))
        soon ((shows contexts are.many).outs output place.0 g) in
        subst (λ due. ShowsBitsInContexts ports.l ports.p (length contexts) cycles bits g (driven due (plane_with library plan lit) g) cell.x cell.y) (sym (same_drive flat plan (length starts) ports k.table k.bare contexts))
        (subst (λ l. ShowsBitsInContexts l ports.p (length contexts) cycles bits g (driven (drive_of_contexts plan contexts) (plane_with library plan lit) g) cell.x cell.y) (sym k.table.latency)
        (subst (λ p. ShowsBitsInContexts (latency_of plan) p (length contexts) cycles bits g (driven (drive_of_contexts plan contexts) (plane_with library plan lit) g) cell.x cell.y) (sym k.table.period)
        (subst (λ (at : ℕ × ℕ). ShowsBitsInContexts (latency_of plan) (period_of plan) (length contexts) cycles bits g (driven (drive_of_contexts plan contexts) (plane_with library plan lit) g) at.0 at.1) (sym place.1) shown)))

    nets_shown : ShowsNetLinesInContexts (plane_with library plan lit) ports cycles contexts (listed_nets flat) (λ c t net. runs c t net.class)
    nets_shown number net line is_net is_line g early =
        let place = net_cell_is flat plan (length starts) ports k.table k.bare number line is_line in
        let cell = net_cell_of plan number in
        let bits : ℕ → ℕ → Bool = λ c t. runs c t net.class in
        let soon : g < cell.2 + cycles * period_of plan = subst (λ n. g < n) (ap₂ (λ at p. at + cycles * p) (ap (λ c. c.2) place.1) k.table.period) early in
        let shown = in_contexts (period_of plan) cell.2 (length contexts) cycles g
        (driven (drive_of_contexts plan contexts) (plane_with library plan lit) g (pos cell.0) (pos cell.1) ≡ Head)
        (λ c t. bit_on (bits_after after_columns plan.columns (net_place plan number).after (bits_of_context_rows plan on_loops contexts c t)) (net_place plan number).lane) bits
        (λ c t low lt. ap (λ b. bit_on (bits_after after_columns plan.columns (net_place plan number).after b) (net_place plan number).lane) (same_bits c t low)
        ∙ net_shown flat list plan k.list_computes k.plan_computes (start_of c) (long c (start_of c) (some_start c low)) (get_or contexts c []) (are.each c [] low) (runs c) (each c (start_of c) (some_start c low))
        number t net place.0 (omega (arith, lt, are.long c [] low)) is_net)
        soon ((shows contexts are.many).nets number place.0 g) in
        subst (λ due. ShowsBitsInContexts line.offset ports.p (length contexts) cycles bits g (driven due (plane_with library plan lit) g) line.x line.y) (sym (same_drive flat plan (length starts) ports k.table k.bare contexts))
        (subst (λ p. ShowsBitsInContexts line.offset p (length contexts) cycles bits g (driven (drive_of_contexts plan contexts) (plane_with library plan lit) g) line.x line.y) (sym k.table.period)
        (subst (λ (at : ℕ × ℕ × ℕ). ShowsBitsInContexts at.2 (period_of plan) (length contexts) cycles bits g (driven (drive_of_contexts plan contexts) (plane_with library plan lit) g) at.0 at.1) (sym place.1) shown))

pub planes_show_contexts : PlanesShowContexts
planes_show_contexts library law flat list plan ports starts k lit s = record {
  conductors = conductors library law flat list plan ports starts k lit s;
  runs = has_runs library law flat list plan ports starts k lit s;
  heads = outputs_shown library law flat list plan ports starts k lit s;
  nets = nets_shown library law flat list plan ports starts k lit s;
}

-- a plan whose loops start as its list does starts as the flat netlist
pub starts_as_flat : (flat : Flat) (list : CellList) (plan : Plan) → ComputesFlat flat list → StartsContexts plan (loop_state list list.starts ∷ []) (start_edges plan) → StartsAsFlat flat list plan
starts_as_flat flat list plan k s = record {
  long = All-cons (λ (bits : List Bool). length bits ≡ length flat.latches) (start_bits flat) [] (length-map flat.latches _) (All-nil (λ (bits : List Bool). length bits ≡ length flat.latches));
  on_plan = subst (λ (bits : List Bool). StartsContexts plan (bits ∷ []) (start_edges plan)) (ap (loop_state list) k.mapped.starts) s;
}

pub planes_show_runs : PlanesShowRuns
planes_show_runs library law flat list plan ports k s =
    flat_from_contexts (start_plane library plan) ports flat (planes_show_contexts library law flat list plan ports (start_bits flat ∷ []) k (start_edges plan) s)

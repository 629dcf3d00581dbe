-- What the parts of a made run give together.
use Rattle.std.proofs.Common.{ℕ, ◌≡◌, ◌≤◌, ◌<◌, ◌+◌, ◌*◌, sym, ap, ap₂, ◌∙◌, subst, Bool, List, [], length, map, get_or, arith}
use Rattle.std.specs.Prelude.{All}
use Rattle.std.proofs.lemmas.List.{ext_get_or, length-map, get_or-map}
use Rattle.std.proofs.lemmas.List.FromFn.{length-map-range_with_len, get_or-map-range_with_len}
use Rattle.ww_rule.specs.Grid.{Grid, plane_of}
use Rattle.ww_rule.proofs.RowLemmas.{get_or_any}
use Rattle.lane_core.specs.declared.plan.Plan.{Plan}
use Rattle.lane_core.specs.Plans.{IsAdmissible}
use Rattle.grid_assembly.specs.PlanDrawing.{start_grid}
use Rattle.pattern_reading.specs.declared.ports.PortLine.{PortLine}
use Rattle.pattern_reading.specs.declared.ports.Ports.{Ports}
use Rattle.pattern_reading.specs.Ports.{names_of}
use Rattle.pattern_writing.specs.WrittenText.{pattern_text}
use Rattle.netlist_core.specs.declared.model.Design.{Design}
use Rattle.netlist_core.specs.declared.flat.FlatPort.{FlatPort}
use Rattle.netlist_core.specs.Names.{Name}
use Rattle.netlist_meaning.specs.Flat.{name_of_net}
use Rattle.netlist_meaning.specs.FlatOf.{IsFlatOf}
use Rattle.netlist_meaning.specs.Places.{main_outputs}
use Rattle.netlist_meaning.specs.Valuation.{Valuation, IsRun}
use Rattle.netlist_meaning.specs.Weight.{weight}
use Rattle.netlist_text.specs.declared.netlist.Netlist.{Netlist}
use Rattle.netlist_text.specs.NetlistText.{IsNetlist}
use Rattle.netlist_text.specs.Parts.{AreParts}
use Rattle.netlist_text.specs.Laws.{TextsAreDecided}
use Rattle.netlist_plans.specs.declared.planning.Planned.{Planned}
use Rattle.netlist_plans.specs.Planned.{IsSmall}
use Rattle.carries.specs.FlatNets.{CarriesFlat}
use Rattle.carries.proofs.OneWay.{one_spelling}
use Rattle.plan_carries.specs.Laws.{DesignsAreCarried}
use Rattle.plan_carries.proofs.Bare.{bare_in_names}
use Rattle.plan_ports.specs.Tables.{IsTableOf}
use Rattle.streams.specs.declared.streams.Streams.{Streams}
use Rattle.streams.specs.Rows.{rows_of}
use Rattle.drive.specs.Driving.{AreFor, first_miss, shown_bits, last_generation, greatest_generation}
use Rattle.netlist_run.specs.Runs.{bits_in_run, ShowsRun}
use Rattle.shown_runs.specs.ShownRuns.{CarriersShowRuns, OneContextIsQuiet}
use Rattle.shown_runs.proofs.Shown.{shown_alone}
use Rattle.made_netlists.specs.Text.{made_text, made_state}
use Rattle.made_netlists.specs.Design.{made_design}
use Rattle.made_summary.specs.MadeNetlists.{MadeAreNetlists, MadeHaveSizes}
use Rattle.made_summary.specs.Streams.{streams_after, drawn_streams}
use Rattle.made_summary.specs.Outputs.{HasTooFarCause, IsQuietUnder}
use Rattle.made_summary.specs.declared.error.SummaryError.{SummaryError}
use Rattle.made_summary.specs.declared.error.SummaryError.TheVariants.{NoMemory, TooFar}
use Rattle.made_summary.specs.Plans.{IsMadeWithPlan}
use Rattle.made_summary.specs.Laws.{ReadsAsPlan, WrittenPlansRead}
use Rattle.made_summary.specs.Summaries.{IsMadePlan, Summarizes, HasSummaryCause, output_at, outputs_by_name, output_in_run}
use Rattle.made_summary.specs.declared.summarizing.Summary.{Summary}
use Rattle.made_summary.specs.declared.summarizing.OutputBits.{OutputBits}
use Rattle.made_summary.proofs.Drawn.{streams_long, streams_many}

pub is_planned : DesignsAreCarried → MadeAreNetlists → MadeHaveSizes → TextsAreDecided → WrittenPlansRead → (seed size : ℕ) → 0 < size → size ≤ 128
    → (netlist : Netlist) (planned : Planned) → IsNetlist (made_text seed size) netlist.design → AreParts netlist.design netlist.flat netlist.order.nodes
    → IsAdmissible planned.plan → planned.plan.tape ≡ [] → IsTableOf netlist.flat planned.plan 1 planned.ports → CarriesFlat (pattern_text (start_grid planned.plan) planned.ports) netlist.flat → IsSmall netlist.flat planned.plan
    → IsMadeWithPlan seed size netlist planned
is_planned law netlists sizes decided read seed size some few netlist planned is p admissible bare table carries slight =
    let design = netlist.design in
    let flat = netlist.flat in
    let plan = planned.plan in
    let ports = planned.ports in
    let made = netlists seed size (omega (arith, some)) few in
    let same : design ≡ made_design seed size = (decided (made_text seed size)).one_design design (made_design seed size) is made in
    let of_made : IsFlatOf (made_design seed size) flat = subst (λ (d : Design). IsFlatOf d flat) same p.is_flat in
    let has = sizes seed size flat of_made in
    let weighs : flat.weight ≡ weight (made_design seed size) = p.is_flat.weight ∙ ap weight same in
    record {
      design = same;
      parts = p;
      sizes = has;
      is_plan = record {
        admissible = admissible;
        carries = (law (pattern_text (start_grid plan) ports) (made_design seed size) flat made.is.design_of.faultless made.clocks of_made carries).carried;
        contexts = table.contexts;
        period = table.period;
        latency = table.latency;
        lanes = subst (λ (w : ℕ). plan.lanes ≤ 4 * w + 4) weighs slight.lanes;
        columns = subst (λ (w : ℕ). length plan.columns ≤ 256 * ((w + 1) * (w + 1))) weighs slight.columns;
        loops = omega (arith, slight.loops, has.latches);
      };
      reads = read (made_text seed size) design flat plan ports is.is.design_of (let few : weight design ≤ 8192 = p.light in omega (arith, few)) p.is_flat admissible table;
      ins = sym (length-map ports.ins (λ (line : PortLine). line.name)) ∙ ap (λ (names : List Name). length names) (bare_in_names plan bare flat 1 ports table) ∙ length-map flat.ins (λ (port : FlatPort). name_of_net flat port.net) ∙ has.ins;
    }

-- the drawn streams are for the inputs
many_and_long : (state cycles n : ℕ) (streams : Streams) → streams ≡ streams_after state cycles → n ≡ 4 → (length streams.bits ≡ n) × All (λ bits. length bits ≡ streams.cycles) streams.bits
many_and_long state cycles n streams are many =
    subst (λ (s : Streams). (length s.bits ≡ n) × All (λ bits. length bits ≡ s.cycles) s.bits) (sym are) (streams_many state cycles ∙ sym many, streams_long state cycles)

pub streams_fit : (seed size cycles : ℕ) (netlist : Netlist) (planned : Planned) (streams : Streams) → IsMadeWithPlan seed size netlist planned → streams ≡ drawn_streams seed size cycles → AreFor planned.ports streams
streams_fit seed size cycles netlist planned streams is are =
    let both = many_and_long (made_state seed size) cycles (length planned.ports.ins) streams are is.ins in
    let one : planned.ports.c ≡ 1 = is.is_plan.contexts in
    let whole : planned.ports.c * length planned.ports.ins ≡ length planned.ports.ins = ap (λ (n : ℕ). n * length planned.ports.ins) one ∙ (let e : 1 * length planned.ports.ins ≡ length planned.ports.ins = omega arith in e) in
    record {
      same = ap (λ (s : Streams). s.c) are ∙ sym one;
      contexts = λ none. omega (arith, none, one);
      room = λ more. absurd (omega (arith, more, one));
      many = both.0 ∙ sym whole;
      long = both.1;
    }

pub streams_feed : (seed size cycles : ℕ) (netlist : Netlist) (planned : Planned) (streams : Streams) → IsMadeWithPlan seed size netlist planned → streams ≡ drawn_streams seed size cycles
    → (length streams.bits ≡ length netlist.flat.ins) × All (λ bits. length bits ≡ streams.cycles) streams.bits
streams_feed seed size cycles netlist planned streams is are = many_and_long (made_state seed size) cycles (length netlist.flat.ins) streams are is.sizes.ins

-- a simulation that is not run
pub not_run : (seed size cycles : ℕ) (netlist : Netlist) (planned : Planned) (streams : Streams) → IsMadeWithPlan seed size netlist planned → streams ≡ drawn_streams seed size cycles
    → (e : SummaryError) → HasTooFarCause (last_generation planned.ports streams) e → HasSummaryCause seed size cycles e
not_run seed size cycles netlist planned streams is are NoMemory cause = tt
not_run seed size cycles netlist planned streams is are (TooFar generations) cause =
    (planned.plan, planned.ports, is.is_plan, cause.0 ∙ ap (last_generation planned.ports) are, cause.1)

-- the one reading of the text is that of the plan
same_reading : (seed size : ℕ) (plan : Plan) (ports : Ports) (is : IsMadePlan seed size plan ports) → ReadsAsPlan plan ports → (is.carries.grid ≡ start_grid plan) × (is.carries.ports ≡ ports)
same_reading seed size plan ports is reads = one_spelling (pattern_text (start_grid plan) ports) is.carries.grid (start_grid plan) is.carries.ports ports is.carries.spells reads.spells

-- each injection meets a conductor
pub is_quiet : OneContextIsQuiet → (seed size cycles : ℕ) (netlist : Netlist) (planned : Planned) (streams : Streams) → IsMadeWithPlan seed size netlist planned → streams ≡ drawn_streams seed size cycles → IsQuietUnder planned streams
is_quiet law seed size cycles netlist planned streams is are =
    let c = is.is_plan.carries in
    let same = same_reading seed size planned.plan planned.ports is.is_plan is.reads in
    let g = last_generation planned.ports streams in
    ap₂ (λ (p : Ports) (grid : Grid). first_miss p streams (plane_of grid.rows) g) (sym same.1) (sym same.0)
    ∙ law (pattern_text (start_grid planned.plan) planned.ports) (made_design seed size) c streams (subst (λ (p : Ports). AreFor p streams) (sym same.1) (streams_fit seed size cycles netlist planned streams is are)) g

-- what the pattern shows in each run
shown_is : CarriersShowRuns → (seed size : ℕ) (plan : Plan) (ports : Ports) (streams : Streams) → IsMadePlan seed size plan ports → ReadsAsPlan plan ports → AreFor ports streams
    → (run : ℕ → Valuation) → IsRun (made_design seed size) (rows_of streams) run
    → shown_bits ports streams (plane_of (start_grid plan).rows) ≡ map (bits_in_run run streams.cycles) (main_outputs (made_design seed size))
shown_is law seed size plan ports streams is reads are run is_run =
    let c = is.carries in
    let same = same_reading seed size plan ports is reads in
    let each = law (pattern_text (start_grid plan) ports) (made_design seed size) c streams (subst (λ (p : Ports). AreFor p streams) (sym same.1) are) in
    ap₂ (λ (p : Ports) (grid : Grid). shown_bits p streams (plane_of grid.rows)) (sym same.1) (sym same.0) ∙ each.whole run is_run

-- an output, by what its parts are
pub output_is : (names : List Name) (simulated evaluated : List (List Bool)) (k : ℕ) (name : Name) (shown given : List Bool) (output : OutputBits) → k < length names
    → length simulated ≡ length names → length evaluated ≡ length names → name ≡ get_or names k name → shown ≡ get_or simulated k shown → given ≡ get_or evaluated k given
    → output.name ≡ name → output.simulated ≡ shown → output.evaluated ≡ given → output ≡ output_at names simulated evaluated k
output_is names simulated evaluated k name shown given output less many all first second third is_name is_shown is_given =
    let at_name = is_name ∙ first ∙ get_or_any names k name [] less in
    let at_shown = is_shown ∙ second ∙ get_or_any simulated k shown [] (subst (λ (n : ℕ). k < n) (sym many) less) in
    let at_given = is_given ∙ third ∙ get_or_any evaluated k given [] (subst (λ (n : ℕ). k < n) (sym all) less) in
    ap₂ (λ (n : Name) (s : List Bool). record { name = n; simulated = s; evaluated = output.evaluated }) at_name at_shown
    ∙ ap (λ (e : List Bool). record { name = get_or names k []; simulated = get_or simulated k []; evaluated = e }) at_given

-- outputs with their bits in a run
all_outputs : (run : ℕ → Valuation) (cycles : ℕ) (names : List Name)
    → outputs_by_name names (map (bits_in_run run cycles) names) (map (bits_in_run run cycles) names) ≡ map (output_in_run run cycles) names
all_outputs run cycles names =
    ext_get_or (output_in_run run cycles []) _ _ (length-map-range_with_len output 0 (length names) ∙ sym (length-map names (output_in_run run cycles)))
    (λ i lt.
    let less : i < length names = subst (λ (m : ℕ). i < m) (length-map-range_with_len output 0 (length names)) lt in
    get_or-map-range_with_len output 0 (length names) i i (output_in_run run cycles []) less (omega arith)
    ∙ ap (λ (bits : List Bool). record { name = get_or names i []; simulated = bits; evaluated = bits }) (get_or-map (bits_in_run run cycles) names i [] [] less)
    ∙ sym (get_or-map (output_in_run run cycles) names i [] (output_in_run run cycles []) less))
  where
    output : ℕ → OutputBits
    output = output_at names (map (bits_in_run run cycles) names) (map (bits_in_run run cycles) names)

pub summarizes : CarriersShowRuns → (seed size cycles : ℕ) (netlist : Netlist) (planned : Planned) (streams : Streams) (names : List Name) (simulated evaluated : List (List Bool)) (summary : Summary)
    → IsMadeWithPlan seed size netlist planned → streams ≡ drawn_streams seed size cycles
    → names ≡ main_outputs netlist.design → simulated ≡ shown_bits planned.ports streams (plane_of (start_grid planned.plan).rows) → ShowsRun netlist.design streams evaluated
    → summary.weight ≡ netlist.flat.weight → summary.lanes ≡ planned.plan.lanes → summary.columns ≡ length planned.plan.columns → summary.p ≡ planned.ports.p → summary.l ≡ planned.ports.l
    → summary.outputs ≡ outputs_by_name names simulated evaluated → last_generation planned.ports streams ≤ greatest_generation → Summarizes seed size cycles summary
summarizes law seed size cycles netlist planned streams names simulated evaluated summary is are named shown ran weighs lanes columns p l outputs near =
    let made = made_design seed size in
    let outs = main_outputs made in
    let runs : ShowsRun made streams evaluated = subst (λ (d : Design). ShowsRun d streams evaluated) is.design ran in
    let run = runs.run in
    let fit = streams_fit seed size cycles netlist planned streams is are in
    let same_names : names ≡ outs = named ∙ ap main_outputs is.design in
    let same_shown : simulated ≡ map (bits_in_run run streams.cycles) outs = shown ∙ shown_is law seed size planned.plan planned.ports streams is.is_plan is.reads fit run runs.is_run in
    let many : streams.cycles ≡ cycles = ap (λ (s : Streams). s.cycles) are in
    record {
      weight = weighs ∙ is.parts.is_flat.weight ∙ ap weight is.design;
      plan = planned.plan;
      ports = planned.ports;
      is_plan = is.is_plan;
      lanes = lanes;
      columns = columns;
      period = p;
      latency = l;
      near = subst (λ (s : Streams). last_generation planned.ports s ≤ greatest_generation) are near;
      run = run;
      is_run = subst (λ (s : Streams). IsRun made (rows_of s) run) are runs.is_run;
      outputs = outputs
          ∙ ap (λ (n : List Name). outputs_by_name n simulated evaluated) same_names
          ∙ ap₂ (λ (s e : List (List Bool)). outputs_by_name outs s e) same_shown runs.bits
          ∙ all_outputs run streams.cycles outs
          ∙ ap (λ (n : ℕ). map (output_in_run run n) outs) many;
    }

-- there are as many rows of bits as outputs
pub shown_many : (seed size : ℕ) (netlist : Netlist) (planned : Planned) (streams : Streams) (names : List Name) (rows : List (List Bool)) → IsMadeWithPlan seed size netlist planned
    → names ≡ main_outputs netlist.design → rows ≡ shown_bits planned.ports streams (plane_of (start_grid planned.plan).rows) → length rows ≡ length names
shown_many seed size netlist planned streams names rows is named shown =
    let same = same_reading seed size planned.plan planned.ports is.is_plan is.reads in
    let outs : names_of planned.ports.outs ≡ main_outputs (made_design seed size) = ap (λ (p : Ports). names_of p.outs) (sym same.1) ∙ is.is_plan.carries.names.outs in
    ap (λ (bits : List (List Bool)). length bits) (shown ∙ shown_alone planned.ports streams (plane_of (start_grid planned.plan).rows) is.is_plan.contexts) ∙ length-map planned.ports.outs _ ∙ sym (length-map planned.ports.outs (λ (line : PortLine). line.name))
    ∙ ap (λ (n : List Name). length n) (outs ∙ ap main_outputs (sym is.design) ∙ sym named)

pub evaluated_many : (design : Design) (streams : Streams) (names : List Name) (rows : List (List Bool)) → names ≡ main_outputs design → ShowsRun design streams rows → length rows ≡ length names
evaluated_many design streams names rows named ran =
    ap (λ (bits : List (List Bool)). length bits) ran.bits ∙ length-map (main_outputs design) (bits_in_run ran.run streams.cycles) ∙ ap (λ (n : List Name). length n) (sym named)

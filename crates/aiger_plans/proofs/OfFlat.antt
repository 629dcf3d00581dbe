-- The plan of the flat netlist of a circuit is one of the circuit.
use Rattle.std.proofs.Common.{◌≡◌, refl, sym, ◌∙◌, ap, subst, ◌+◌, ◌*◌, ◌≤◌, ℕ, Bool, false, List, [], ◌∷◌, length, arith}
use Rattle.std.specs.Prelude.{◌==◌, if◌then◌else◌}
use Rattle.std.proofs.lemmas.List.{length-map}
use Rattle.lane_core.specs.declared.plan.Plan.{Plan}
use Rattle.lane_core.specs.Plans.{IsAdmissible}
use Rattle.plan_layout.specs.Starts.{HasStartEdges}
use Rattle.grid_assembly.specs.PlanDrawing.{start_grid}
use Rattle.netlist_core.specs.declared.flat.Flat.{Flat}
use Rattle.netlist_meaning.specs.Flat.{names_of_ports}
use Rattle.netlist_meaning.specs.FlatOrder.{IsOrder}
use Rattle.cell_meaning.specs.Needs.{any_needs_one}
use Rattle.pattern_reading.specs.declared.ports.NetLine.{NetLine}
use Rattle.pattern_reading.specs.declared.ports.Ports.{Ports}
use Rattle.pattern_writing.specs.WrittenText.{pattern_text}
use Rattle.place_paths.specs.Paths.{names_and_paths}
use Rattle.plan_ports.specs.Tables.{IsTableOf, driven_inputs, drawn_input_cells, named_paths}
use Rattle.carries.specs.FlatNets.{CarriesFlat}
use Rattle.netlist_plans.specs.Lists.{IsPlanned}
use Rattle.netlist_plans.specs.Sparing.{SparesOne}
use Rattle.netlist_plans.specs.Planned.{ComputesCells, HasFewInstrs, IsSmall}
use Rattle.netlist_plans.specs.Contexts.{StartsLoops}
use Rattle.cell_core.specs.Loops.{loop_state}
use Rattle.aiger_text.specs.declared.aig.Aig.{Aig}
use Rattle.aiger_text.specs.SoundAig.{IsSoundAig}
use Rattle.aiger_meaning.specs.FlatOf.{IsFlatOfAig}
use Rattle.aiger_meaning.specs.Lowered.{IsLowered}
use Rattle.aiger_plans.specs.Needs.{AsksAlike}
use Rattle.aiger_plans.specs.Planned.{IsTableOfAig, IsPlanOfAig}
use Rattle.aiger_plans.proofs.Carried.{aigs_are_carried}
use Rattle.aiger_plans.proofs.Named.{none_listed}
use Rattle.aiger_plans.proofs.Needs.{flats_of_aigs_ask_alike}
use Rattle.aiger_plans.proofs.Sparing.{spares_one, no_output_is_one}

-- beside no tape each input is driven
all_driven : {X : Type 0} (plan : Plan) (inputs : List X) → plan.tape ≡ [] → driven_inputs plan inputs ≡ inputs
all_driven plan inputs bare = ap (λ (tape : List (List Bool)). if length tape == 0 then inputs else []) bare

no_lines : (lines : List NetLine) → names_and_paths lines ≡ [] → lines ≡ []
no_lines [] e = refl
no_lines (line ∷ lines) e = absurd (omega (arith, ap length e))

module _ (aig : Aig) (flat : Flat) (order : List ℕ) (sound : IsSoundAig aig) (is_flat : IsFlatOfAig aig flat) (lowered : IsLowered aig flat) (ordered : IsOrder flat order) (plan : Plan) (ports : Ports) where
  asks : AsksAlike aig flat
  asks = flats_of_aigs_ask_alike aig flat is_flat

  table_of_aig : plan.tape ≡ [] → IsTableOf flat plan 1 ports → IsTableOfAig aig plan ports
  table_of_aig bare table = record {
    period = table.period;
    latency = table.latency;
    contexts = table.contexts;
    in_cells = table.in_cells ∙ all_driven plan (drawn_input_cells plan) bare;
    out_cells = table.out_cells;
    names = record {
      ins = table.in_names ∙ all_driven plan (names_of_ports flat flat.ins) bare ∙ lowered.in_names;
      outs = table.out_names ∙ lowered.out_names;
      nets = no_lines ports.nets (table.net_names ∙ ap named_paths (sym (none_listed flat lowered.unlisted)));
    };
  }

  -- the plan computes the cells of its list
  abbrev cells_of : IsPlanned flat plan → ComputesCells flat plan
  cells_of p =
      let m = p.computes.mapped in
      record {
        list = p.list;
        mapped = m;
        computes = p.is.computes;
        entries = p.is.entries;
        exits = p.is.exits;
        loops = omega (arith, p.is.computes.loops, ap length m.starts ∙ length-map flat.latches _);
        starts = subst (λ (bits : List Bool). StartsLoops plan (bits ∷ [])) (ap (loop_state p.list) m.starts) p.is.starts;
      }

  pub is_plan : IsAdmissible plan → HasStartEdges plan → plan.tape ≡ [] → IsPlanned flat plan → IsSmall flat plan → IsTableOf flat plan 1 ports
      → (length flat.latches ≡ 0 → any_needs_one flat ≡ false → ports.p ≡ 32) → (SparesOne flat → ports.p ≡ 32) → CarriesFlat (pattern_text (start_grid plan) ports) flat → IsPlanOfAig aig plan ports
  is_plan admissible edges bare planned small table short shorter carries = record {
    admissible = admissible;
    edges = edges;
    bare = bare;
    planned = record { flat = flat; is_flat = is_flat; planned = planned; cells = cells_of planned; one_list = refl };
    lanes = subst (λ w. plan.lanes ≤ 4 * w + 4) lowered.weight small.lanes;
    columns = subst (λ w. length plan.columns ≤ 256 * ((w + 1) * (w + 1))) lowered.weight small.columns;
    instrs = subst (λ w. HasFewInstrs w plan) lowered.weight small.instrs;
    loops = subst (λ n. plan.latches ≤ n + 1) asks.latches small.loops;
    no_more_loops = λ e. small.no_more_loops (asks.one ∙ e) ∙ asks.latches;
    table = table_of_aig bare table;
    period = λ none e. short (asks.latches ∙ none) (asks.one ∙ e);
    at_zero = λ none. (
      (λ e. no_output_is_one aig flat order sound is_flat lowered ordered none plan planned (sym table.period ∙ e) (aigs_are_carried (pattern_text (start_grid plan) ports) aig flat carries lowered)),
      (λ e. shorter (spares_one aig flat order sound is_flat lowered ordered none e (aigs_are_carried (pattern_text (start_grid plan) ports) aig flat carries lowered))),
    );
    carries = aigs_are_carried (pattern_text (start_grid plan) ports) aig flat carries lowered;
  }

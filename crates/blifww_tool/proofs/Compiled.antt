-- What the parts of a compilation give together.
use Rattle.std.proofs.Common.{ℕ, ◌≡◌, ◌≢◌, ◌≤◌, ◌<◌, ◌+◌, ◌*◌, ◌/◌, ◌^◌, ◌==◌, ◌&&◌, true≢false, max, cond, refl, sym, ap, ap₂, ◌∙◌, subst, Bool, true, false, List, [], ◌∷◌, length, map, flat_map, arith, length-append}
use Rattle.std.specs.Prelude.{None, All, get_or, nat_lt, ◌++◌}
use Rattle.std.specs.List.{range_with_len}
use Rattle.std.proofs.lemmas.List.Elements.{All-map}
use Rattle.std.proofs.lemmas.List.FromFn.{length-map-range_with_len}
use Rattle.std.proofs.Math.Nat.{max-le}
use Rattle.std.proofs.Math.Path.{fun_ext}
use Rattle.std.proofs.lemmas.Bool.{and_parts, eqb-false, eqb-true}
use Rattle.std.proofs.lemmas.Simd.{map-map}
use Rattle.std.proofs.lemmas.List.{length-map}
use Rattle.lane_core.specs.declared.plan.Plan.{Plan}
use Rattle.lane_core.specs.Plans.{IsAdmissible, period_of}
use Rattle.plan_layout.specs.Starts.{HasStartEdges}
use Rattle.pattern_reading.specs.declared.ports.Ports.{Ports}
use Rattle.rle_write.specs.PlanText.{text_of_plan}
use Rattle.netlist_core.specs.declared.model.Design.{Design}
use Rattle.netlist_core.specs.declared.model.Model.{Model}
use Rattle.netlist_core.specs.declared.flat.Flat.{Flat}
use Rattle.netlist_meaning.specs.Places.{Place, model_at}
use Rattle.netlist_meaning.specs.InOrder.{of_some, places_in_order}
use Rattle.netlist_meaning.specs.Flat.{IsNamed, IsSound}
use Rattle.netlist_meaning.specs.Weight.{weight}
use Rattle.netlist_meaning.specs.FlatOf.{IsFlatOf, at_places, flat_latch}
use Rattle.netlist_meaning.specs.Valuation.{LatchState, start_state}
use Rattle.netlist_meaning.specs.FlatValuation.{start_bits}
use Rattle.flat_designs.specs.Laws.{FlatIsOne, state_in_order}
use Rattle.flat_designs.proofs.Sound.{flat_is_sound}
use Rattle.flat_designs.proofs.Valuations.{valuations_are_flat}
use Rattle.flat_designs.proofs.Weights.{parts_are_few}
use Rattle.flat_designs.proofs.Whole.{flat_is_named}
use Rattle.netlist_text.specs.NetlistText.{IsNetlist}
use Rattle.netlist_text.specs.Parts.{AreParts}
use Rattle.netlist_text.proofs.SoundParts.{small, sound}
use Rattle.netlist_text.specs.Causes.{HasNetlistCause}
use Rattle.netlist_text.specs.declared.error.NetlistError.{NetlistError}
use Rattle.netlist_text.specs.declared.error.NetlistError.TheVariants as netlist_of
use Rattle.netlist_plans.specs.Lists.{IsCompilable}
use Rattle.netlist_plans.specs.Planned.{ComputesCells, HasFewInstrs, HasLanes, HasShortPeriod, IsSmall}
use Rattle.netlist_plans.specs.NetPlaces.{HasNetPlaces}
use Rattle.netlist_plans.specs.Contexts.{loop_starting_bits, IsPaddedFor, StartsLoops}
use Rattle.netlist_plans.proofs.OneContext.{starts_with_latches, unpadded}
use Rattle.carries.specs.Carries.{Carries}
use Rattle.carries.specs.Nets.{CarriesNets}
use Rattle.carries.specs.FlatNets.{CarriesFlat}
use Rattle.carries.specs.FlatContexts.{CarriesFlatContexts}
use Rattle.carries.specs.DesignContexts.{CarriesContexts, CarriesNetsInContexts}
use Rattle.carries.specs.ContextLaws.{OneContextCarries, OneContextCarriesNets}
use Rattle.plan_carries.proofs.SeenNets.{places_fit}
use Rattle.plan_carries.specs.Laws.{DesignsAreCarried}
use Rattle.plan_carries.specs.ContextLaws.{DesignsAreCarriedInContexts}
use Rattle.plan_ports.specs.Tables.{HasPortNames, HasTablePlaces, IsTableOf}
use Rattle.lift_carries.specs.Compiled.{CompiledAreDrawings, OneContextIsCircuit, IsWrittenDrawing}
use Rattle.start_words.specs.declared.error.StartError.{StartError}
use Rattle.start_words.specs.declared.error.StartError.TheVariants as starts_of
use Rattle.start_words.specs.Flats.{flat_latches, flat_start_bit, flat_start_bits, flat_starts}
use Rattle.start_words.specs.Words.{HasStartCause, first_fault}
use Rattle.start_words.specs.Starts.{latches_of, starts_of_words}
use Rattle.start_words.specs.Laws.{LatchesAreFlat, NoWordsMeanStart, StartsAreFlat}
use Rattle.command_words.specs.Shapes.{compile}
use Rattle.blifww_tool.specs.Commands.{HasTextCause}
use Rattle.blifww_tool.specs.Compilation.{Compiles, HasNoRoom, HasStarts, IsCarriedBy, latch_count, least_room, loop_starts}
use Rattle.program_runs.specs.Refusals.{netlist_error, starts_error}

-- the flat netlist of a netlist whose ports' names can stand in a table
pub compilable : (design : Design) (flat : Flat) (order : List ℕ) → AreParts design flat order → HasPortNames flat → IsCompilable flat order
compilable design flat order parts names =
    record {
      sound = sound design flat order parts flat_is_sound;
      ordered = parts.is_order;
      named = flat_is_named design flat parts.faultless parts.is_flat;
      names = names;
      places = places_fit design flat parts.faultless (omega (arith, small design flat order parts, parts.is_flat.weight)) parts.is_flat;
    }

-- a text that gives no netlist,
pub compile_refused : (contexts : ℕ) (starts : List (List ℕ)) (text : List ℕ) (e : NetlistError) → HasNetlistCause text e → HasTextCause (compile contexts starts) text (netlist_error e)
compile_refused contexts starts text (netlist_of.Fault fault) h = h
compile_refused contexts starts text (netlist_of.TooLarge weight) h = h
compile_refused contexts starts text (netlist_of.Loop names) h = h
compile_refused contexts starts text netlist_of.NoMemory h = tt

-- and a netlist in which the words say no starts
same_latches : LatchesAreFlat → (design : Design) (flat : Flat) (order : List ℕ) → AreParts design flat order → flat_latches flat ≡ latches_of design
same_latches law design flat order p = fun_ext (λ name. law design flat p.faultless p.is_flat name)

pub starts_refused : LatchesAreFlat → (contexts : ℕ) (starts : List (List ℕ)) (text : List ℕ) (design : Design) (flat : Flat) (order : List ℕ) (e : StartError) → IsNetlist text design → AreParts design flat order
    → HasStartCause (flat_latches flat) contexts starts e → HasTextCause (compile contexts starts) text (starts_error e)
starts_refused law contexts starts text design flat order starts_of.NoMemory is p h = tt
starts_refused law contexts starts text design flat order (starts_of.Fault fault) is p h = record {
  design = design;
  netlist = is;
  at_fault = ap (λ latches. first_fault latches contexts starts) (sym (same_latches law design flat order p)) ∙ h;
}

pub has_starts : LatchesAreFlat → (contexts : ℕ) (starts : List (List ℕ)) (text : List ℕ) (design : Design) (flat : Flat) (order : List ℕ) → IsNetlist text design → AreParts design flat order
    → first_fault (flat_latches flat) contexts starts ≡ None → HasStarts contexts starts text design
has_starts law contexts starts text design flat order is p none = record {
  netlist = is;
  no_fault = ap (λ latches. first_fault latches contexts starts) (sym (same_latches law design flat order p)) ∙ none;
}

-- a netlist has few latches
pub few_latches : (design : Design) (flat : Flat) (order : List ℕ) → AreParts design flat order → length flat.latches < 2 ^ 32
few_latches design flat order p =
    let few = parts_are_few design flat p.is_flat in
    let same : flat.weight ≡ weight design = p.is_flat.weight in
    omega (arith, few, same, small design flat order p)

-- what is written of a plan that starts one context spells the drawing of a circuit,
pub drawn : OneContextIsCircuit → CompiledAreDrawings → (flat : Flat) (plan : Plan) (ports : Ports) → IsSound flat → IsNamed flat → HasPortNames flat → HasTablePlaces flat
    → IsAdmissible plan → plan.tape ≡ [] → HasStartEdges plan → (bits : List Bool) → StartsLoops plan (bits ∷ []) → IsTableOf flat plan 1 ports → IsWrittenDrawing plan ports
drawn circuit drawings flat plan ports sound named names places admissible bare edges bits starts table =
    drawings flat plan ports (record {
      sound = sound;
      named = named;
      names = names;
      places = places;
      circuit = (circuit plan admissible bare bits (record { edges = edges; on_loops = starts })).0;
      table = table;
    })

-- also where the context is one of a list
pub drawn_in_one : OneContextIsCircuit → CompiledAreDrawings → (flat : Flat) (plan : Plan) (ports : Ports) → IsSound flat → IsNamed flat → HasPortNames flat → HasTablePlaces flat
    → IsAdmissible plan → plan.tape ≡ [] → HasStartEdges plan → (starts : List (List Bool)) → StartsLoops plan starts → length starts ≡ 1 → IsTableOf flat plan 1 ports
    → IsWrittenDrawing plan ports
drawn_in_one circuit drawings flat plan ports sound named names places admissible bare edges [] starts one table = absurd (omega (arith, one))
drawn_in_one circuit drawings flat plan ports sound named names places admissible bare edges (bits ∷ []) starts one table =
    drawn circuit drawings flat plan ports sound named names places admissible bare edges bits starts table
drawn_in_one circuit drawings flat plan ports sound named names places admissible bare edges (bits ∷ more ∷ others) starts one table = absurd (omega (arith, one))

-- the plan by which a design is carried
pub carried_by : FlatIsOne → DesignsAreCarried → (design : Design) (flat : Flat) (order : List ℕ) (plan : Plan) (ports : Ports) → AreParts design flat order
    → IsAdmissible plan → HasStartEdges plan → IsTableOf flat plan 1 ports → ComputesCells flat plan → HasLanes flat plan → HasNetPlaces flat plan → CarriesFlat (text_of_plan plan ports) flat → IsSmall flat plan
    → HasShortPeriod flat ports → IsWrittenDrawing plan ports
    → IsCarriedBy design plan ports
carried_by one law design flat order plan ports p admissible edges table cells size places carries few period drawing =
    let nets : CarriesNets (text_of_plan plan ports) design = law (text_of_plan plan ports) design flat p.faultless p.clocks p.is_flat carries in
    record {
      admissible = admissible;
      edges = edges;
      carries = nets.carried;
      nets = nets;
      lanes = subst (λ (w : ℕ). plan.lanes ≤ 4 * w + 4) p.is_flat.weight few.lanes;
      columns = subst (λ (w : ℕ). length plan.columns ≤ 256 * ((w + 1) * (w + 1))) p.is_flat.weight few.columns;
      instrs = subst (λ (w : ℕ). HasFewInstrs w plan) p.is_flat.weight few.instrs;
      table = λ other h. subst (λ (f : Flat). IsTableOf f plan 1 ports) (one design flat other p.is_flat h) table;
      cells = λ other h. subst (λ (f : Flat). ComputesCells f plan) (one design flat other p.is_flat h) cells;
      size = λ other h. subst (λ (f : Flat). HasLanes f plan) (one design flat other p.is_flat h) size;
      places = λ other h. subst (λ (f : Flat). HasNetPlaces f plan) (one design flat other p.is_flat h) places;
      period = λ other h. subst (λ (f : Flat). HasShortPeriod f ports) (one design flat other p.is_flat h) period;
      drawing = drawing;
    }

-- ---- room

-- what is listed at places is as many, whatever is made of it
many_at_places : {X Y Z : Type 0} (design : Design) (items : Model → List X) (f : Place → X → Y) (g : Place → X → Z) → length (at_places design items f) ≡ length (at_places design items g)
many_at_places {X} {Y} {Z} design items f g = go (places_in_order design)
  where
    found : Place → List X
    found place = of_some items (model_at design place)

    go : (places : List Place) → length (flat_map (λ place. map (f place) (found place)) places) ≡ length (flat_map (λ place. map (g place) (found place)) places)
    go [] = refl
    go (place ∷ places) =
        let rest = go places in
        omega (
          arith,
          length-append (map (f place) (found place)) (flat_map (λ p. map (f p) (found p)) places),
          length-append (map (g place) (found place)) (flat_map (λ p. map (g p) (found p)) places),
          length-map (found place) (f place),
          length-map (found place) (g place),
          rest,
        )

many_latches : (design : Design) (flat : Flat) → IsFlatOf design flat → length flat.latches ≡ latch_count design
many_latches design flat is =
    ap (λ latches. length latches) is.latches
    ∙ many_at_places design (λ (model : Model). model.latches) (flat_latch design) (λ place latch. latch)

-- of the period of a plan
room_of_period : (plan : Plan) (latches : ℕ) → IsAdmissible plan → latches ≤ plan.latches → max 1 (6 * latches) ≤ period_of plan / 32
room_of_period plan latches admissible few = go (plan.latches == 0) refl
  where
    go : (b : Bool) → (plan.latches == 0) ≡ b → max 1 (6 * latches) ≤ cond b 32 (32 * (2 * length plan.columns + 4 * plan.latches)) / 32
    go true none =
        let zero : plan.latches ≡ 0 = eqb-true plan.latches 0 none in
        max-le (omega arith) (omega (arith, few, zero))
    go false some =
        let columns = admissible.size.loops_in_columns in
        let not_zero : plan.latches ≢ 0 = eqb-false plan.latches 0 some in
        max-le (omega (arith, columns, not_zero)) (omega (arith, few, columns))

pub least_room_of : (design : Design) (flat : Flat) (plan : Plan) (ports : Ports) → IsFlatOf design flat → IsCarriedBy design plan ports → least_room design ≤ ports.p / 32
least_room_of design flat plan ports is h =
    let cells = (h.cells flat is).loops in
    let few : length flat.latches ≤ plan.latches = omega (arith, cells) in
    subst (λ (p : ℕ). least_room design ≤ p / 32) (sym (h.table flat is).period)
    (subst (λ (n : ℕ). max 1 (6 * n) ≤ period_of plan / 32) (many_latches design flat is) (room_of_period plan (length flat.latches) h.admissible few))

pub room_refused : (contexts : ℕ) (starts : List (List ℕ)) (text : List ℕ) (design : Design) (flat : Flat) (plan : Plan) (ports : Ports) → HasStarts contexts starts text design → IsFlatOf design flat
    → IsCarriedBy design plan ports → ports.p / 32 < contexts → HasNoRoom contexts starts text (ports.p / 32)
room_refused contexts starts text design flat plan ports has is h over = record {
  design = design;
  has = has;
  plan = plan;
  ports = ports;
  is_carried = h;
  limit_is = refl;
  least = least_room_of design flat plan ports is h;
  over = over;
}

-- ---- starts

pub many_starts : (flat : Flat) (starts : List (List ℕ)) (contexts : ℕ) (bits : List (List Bool)) → bits ≡ flat_starts flat starts contexts → length bits ≡ contexts
many_starts flat starts contexts bits e = ap (λ (l : List (List Bool)). length l) e ∙ length-map-range_with_len (flat_start_bits flat starts) 0 contexts

pub long_starts : (flat : Flat) (starts : List (List ℕ)) (contexts : ℕ) (bits : List (List Bool)) → bits ≡ flat_starts flat starts contexts
    → All (λ (b : List Bool). length b ≡ length flat.latches) bits
long_starts flat starts contexts bits e =
    subst (All (λ (b : List Bool). length b ≡ length flat.latches)) (sym e)
    (All-map (λ (b : List Bool). length b ≡ length flat.latches) (flat_start_bits flat starts) (range_with_len 0 contexts)
    (λ i d lt. length-map flat.latches (flat_start_bit flat starts (get_or (range_with_len 0 contexts) i d))))

-- ---- what is written

no_words : NoWordsMeanStart → (design : Design) → start_state design ∷ [] ≡ starts_of_words design [] 1
no_words law design = ap (λ (s : LatchState). s ∷ []) (sym (law design 0))

-- the electrons of the plan of one context
electrons_alone : NoWordsMeanStart → (design : Design) (flat : Flat) (order : List ℕ) (plan : Plan) (ports : Ports) → AreParts design flat order → IsCarriedBy design plan ports
    → StartsLoops plan (loop_starts design plan (starts_of_words design [] 1))
electrons_alone none design flat order plan ports p h =
    let start : start_bits flat ≡ state_in_order design (start_state design) = (valuations_are_flat design flat p.faultless p.clocks p.is_flat).starts in
    subst (λ (states : List LatchState). StartsLoops plan (loop_starts design plan states)) (no_words none design)
    (subst (λ (bits : List Bool). StartsLoops plan (loop_starting_bits plan bits ∷ [])) start (starts_with_latches flat plan (h.cells flat p.is_flat)))

-- and of a plan of several contexts, or with words
electrons_of : StartsAreFlat → (contexts : ℕ) (starts : List (List ℕ)) (design : Design) (flat : Flat) (order : List ℕ) (base plan : Plan) (bits : List (List Bool)) → AreParts design flat order
    → bits ≡ flat_starts flat starts contexts → plan.latches ≡ base.latches → StartsLoops plan (map (loop_starting_bits base) bits)
    → StartsLoops plan (loop_starts design plan (starts_of_words design starts contexts))
electrons_of law contexts starts design flat order base plan bits p are same h =
    let states : List LatchState = starts_of_words design starts contexts in
    let of_states : bits ≡ map (state_in_order design) states = are ∙ law design flat p.faultless p.is_flat starts contexts in
    subst (StartsLoops plan)
    (ap (map (loop_starting_bits base)) of_states
    ∙ map-map (loop_starting_bits base) (state_in_order design) states
    ∙ ap (λ (n : ℕ). map (λ (state : LatchState). state_in_order design state ++ cond (nat_lt (length (state_in_order design state)) n) (true ∷ []) []) states) (sym same)) h

-- the plan itself, in one context and without words
pub compiles_alone : OneContextCarries → OneContextCarriesNets → NoWordsMeanStart → (text : List ℕ) (design : Design) (flat : Flat) (order : List ℕ) (plan : Plan) (ports : Ports) → HasStarts 1 [] text design
    → AreParts design flat order → IsCarriedBy design plan ports → 1 ≤ ports.p / 32 → Compiles 1 [] text (text_of_plan plan ports)
compiles_alone carry carry_nets none text design flat order plan ports has p h room =
    let output = text_of_plan plan ports in
    record {
      design = design;
      has = has;
      base = plan;
      base_ports = ports;
      is_carried = h;
      room = room;
      plan = plan;
      ports = ports;
      admissible = h.admissible;
      edges = h.edges;
      padded = unpadded plan;
      electrons = electrons_alone none design flat order plan ports p h;
      alone = λ one empty. (refl, refl);
      table = h.table;
      places = h.places;
      written = refl;
      drawing = λ one. h.drawing;
      carries = subst (CarriesContexts output design) (no_words none design) ((carry output design).0 h.carries);
      nets = subst (CarriesNetsInContexts output design) (no_words none design) ((carry_nets output design).0 h.nets);
    }

-- where this is what is asked for
pub alone : {X : Type 0} (f : X → List ℕ) (contexts : ℕ) (words : List X) → (contexts == 1 && length words == 0) ≡ true → (contexts ≡ 1) × (map f words ≡ [])
alone f contexts [] e = (eqb-true contexts 1 (and_parts (contexts == 1) true e).0, refl)
alone f contexts (w ∷ ws) e = let none : length (w ∷ ws) ≡ 0 = eqb-true (length (w ∷ ws)) 0 (and_parts (contexts == 1) (length (w ∷ ws) == 0) e).1 in absurd (omega (arith, none))

pub not_alone : {X : Type 0} (f : X → List ℕ) (contexts : ℕ) (words : List X) → (contexts == 1 && length words == 0) ≡ false → contexts ≡ 1 → map f words ≡ [] → ⊥
not_alone f contexts [] e one empty = true≢false (sym (ap (λ (n : ℕ). n == 1 && true) one) ∙ e)
not_alone f contexts (w ∷ ws) e one empty = cc

pub compiles_plain : OneContextCarries → OneContextCarriesNets → NoWordsMeanStart → (contexts : ℕ) (starts : List (List ℕ)) → (contexts ≡ 1) × (starts ≡ []) → (text : List ℕ) (design : Design) (flat : Flat) (order : List ℕ)
    (plan : Plan) (ports : Ports) → HasStarts contexts starts text design → AreParts design flat order → IsCarriedBy design plan ports → contexts ≤ ports.p / 32 → Compiles contexts starts text (text_of_plan plan ports)
compiles_plain carry carry_nets none contexts starts (one, empty) text design flat order plan ports has p h room =
    let output = text_of_plan plan ports in
    subst (λ (n : ℕ). Compiles n starts text output) (sym one)
    (subst (λ (ws : List (List ℕ)). Compiles 1 ws text output) (sym empty)
    (compiles_alone carry carry_nets none text design flat order plan ports
    (subst (λ (n : ℕ). HasStarts n [] text design) one (subst (λ (ws : List (List ℕ)). HasStarts contexts ws text design) empty has)) p h (subst (λ (n : ℕ). n ≤ ports.p / 32) one room)))

-- and in contexts, from the starts that the words say
pub compiles : FlatIsOne → DesignsAreCarriedInContexts → StartsAreFlat → (contexts : ℕ) (starts : List (List ℕ)) (text : List ℕ) (design : Design) (flat : Flat) (order : List ℕ) (base : Plan) (base_ports : Ports) (plan : Plan) (ports : Ports)
    (bits : List (List Bool)) → HasStarts contexts starts text design → AreParts design flat order → IsCarriedBy design base base_ports → contexts ≤ base_ports.p / 32
    → (contexts ≡ 1 → starts ≡ [] → ⊥) → IsAdmissible plan → HasStartEdges plan → IsPaddedFor contexts base plan
    → bits ≡ flat_starts flat starts contexts → StartsLoops plan (map (loop_starting_bits base) bits)
    → IsTableOf flat plan contexts ports → HasNetPlaces flat plan → CarriesFlatContexts (text_of_plan plan ports) flat bits
    → (contexts ≡ 1 → IsWrittenDrawing plan ports) → Compiles contexts starts text (text_of_plan plan ports)
compiles one law flat_law contexts starts text design flat order base base_ports plan ports bits has p h room several admissible edges padded are_bits started table places carries drawing =
    let output = text_of_plan plan ports in
    let states = starts_of_words design starts contexts in
    let by_states : CarriesFlatContexts output flat (map (state_in_order design) states) =
    subst (CarriesFlatContexts output flat) (are_bits ∙ flat_law design flat p.faultless p.is_flat starts contexts) carries in
    let nets : CarriesNetsInContexts output design states = law output design flat p.faultless p.clocks p.is_flat states by_states in
    record {
      design = design;
      has = has;
      base = base;
      base_ports = base_ports;
      is_carried = h;
      room = room;
      plan = plan;
      ports = ports;
      admissible = admissible;
      edges = edges;
      padded = padded;
      electrons = electrons_of flat_law contexts starts design flat order base plan bits p are_bits padded.latches started;
      alone = λ is_one empty. absurd (several is_one empty);
      table = λ other is. subst (λ (f : Flat). IsTableOf f plan contexts ports) (one design flat other p.is_flat is) table;
      places = λ other is. subst (λ (f : Flat). HasNetPlaces f plan) (one design flat other p.is_flat is) places;
      written = refl;
      drawing = drawing;
      carries = nets.carried;
      nets = nets;
    }

-- what is written of a design in one context and without words carries it, and its nets
pub carries_alone : (text output : List ℕ) → (c : Compiles 1 [] text output) → Carries output c.design × CarriesNets output c.design
carries_alone text output c =
    let same = c.alone refl refl in
    let written : text_of_plan c.base c.base_ports ≡ output =
    ap₂ (λ (plan : Plan) (ports : Ports). text_of_plan plan ports) (sym same.0) (sym same.1) ∙ sym c.written in
    (subst (λ (text : List ℕ). Carries text c.design) written c.is_carried.carries, subst (λ (text : List ℕ). CarriesNets text c.design) written c.is_carried.nets)

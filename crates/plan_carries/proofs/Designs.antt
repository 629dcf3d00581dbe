-- A text that carries the flat netlist of a design in contexts carries the design and its nets in them.
use Rattle.std.proofs.Common.{◌≡◌, refl, sym, ◌∙◌, ap, subst, ℕ, zero, suc, ◌<◌, ◌≤◌, Bool, List, [], ◌∷◌, length, map, get_or, arith}
use Rattle.std.specs.Prelude.{Option, Some, None, slice_get, option_map, All}
use Rattle.std.proofs.lemmas.List.{length-map}
use Rattle.std.proofs.lemmas.Option.{slice_get-map, slice_get-get_or, slice_get_within, none-some, same_Some}
use Rattle.ww_rule.specs.Wireworld.{Plane, driven, evolve}
use Rattle.ww_rule.specs.Grid.{plane_of}
use Rattle.netlist_core.specs.declared.model.Design.{Design}
use Rattle.netlist_core.specs.declared.flat.Flat.{Flat}
use Rattle.netlist_core.specs.declared.flat.Net.{Net as FlatNet}
use Rattle.netlist_core.specs.declared.flat.FlatPort.{FlatPort}
use Rattle.netlist_core.specs.Names.{Name}
use Rattle.netlist_meaning.specs.Nets.{Net, IsInNames}
use Rattle.netlist_meaning.specs.Flat.{listed_nets, names_of_ports, name_of_net}
use Rattle.netlist_meaning.specs.FlatOf.{class_of_net, flat_net, IsFlatOf}
use Rattle.netlist_meaning.specs.FlatValuation.{IsFlatValuation, IsFlatRun, AreFlatRows, flat_state_in, flat_output_bit, start_bits}
use Rattle.netlist_meaning.specs.Valuation.{Valuation, LatchState, IsValuation, AreInputRows, IsRunFrom, start_state, latches_in, output_bit}
use Rattle.netlist_meaning.proofs.Joined.{in_names_are_one}
use Rattle.netlist_rules.specs.ModelFaults.{AreFaultless}
use Rattle.netlist_rules.specs.Clocks.{HasNoClockFault}
use Rattle.flat_designs.specs.Laws.{state_in_order, class_bits, net_bits, HasValuations}
use Rattle.flat_designs.proofs.Valuations.{valuations_are_flat}
use Rattle.flat_designs.proofs.Whole.{ports_are_flat}
use Rattle.pattern_reading.specs.declared.ports.Ports.{Ports}
use Rattle.carries.specs.Carries.{NamesPorts}
use Rattle.carries.specs.ByItself.{ShowsRunsByItself, ShowsFlatRunsByItself}
use Rattle.carries.specs.FlatNets.{NamesFlat}
use Rattle.carries.specs.Contexts.{AreRunsFrom, context_drive, ShowsBitsInContexts}
use Rattle.carries.specs.FlatContexts.{AreFlatContexts, ShowsFlatContexts, CarriesFlatContexts}
use Rattle.carries.specs.DesignContexts.{AreInputContexts, ShowsContexts, ShowsNetsInContexts}
use Rattle.carries.proofs.OneContext.{one_context_carries_nets, one_context_carries_flat}
use Rattle.carries.proofs.Cycles.{same_from}
use Rattle.plan_carries.specs.Laws.{DesignsAreCarried}
use Rattle.plan_carries.specs.ContextLaws.{DesignsAreCarriedInContexts}
use Rattle.plan_carries.specs.TapeLaws.{DesignsRunByThemselves}
use Rattle.plan_carries.proofs.Alike.{outputs_alike, latches_alike}
use Rattle.plan_carries.proofs.SeenNets.{seen_nets, are_seen, seen_are_flat, seen_are_named, seen_has_bit}

-- what shows bits shows those that are the same in each of the cycles
same_shown : (first period count cycles : ℕ) (bit other : ℕ → ℕ → Bool) (g : ℕ) (plane : Plane) (x y : ℕ) → ((c t : ℕ) → c < count → t < cycles → bit c t ≡ other c t)
    → ShowsBitsInContexts first period count cycles bit g plane x y → ShowsBitsInContexts first period count cycles other g plane x y
same_shown first period count cycles bit other g plane x y same shown = (
  λ head. (let found = shown.0 head in (found.0, found.1, found.2, found.3, found.4, sym (same found.0 found.1 found.2 found.3) ∙ found.5)),
  λ at. shown.1 (at.0, at.1, at.2, at.3, at.4, same at.0 at.1 at.2 at.3 ∙ at.5),
)

module _ (design : Design) (flat : Flat) (faultless : AreFaultless design.models) (clean : HasNoClockFault design) (h : IsFlatOf design flat) where
  have : HasValuations design flat
  have = valuations_are_flat design flat faultless clean h

  -- input rows of the design are rows of the flat netlist
  flat_rows : (rows : List (List Bool)) → AreInputRows design rows → AreFlatRows flat rows
  flat_rows rows (names, are, long) =
      let same : names ≡ names_of_ports flat flat.ins = in_names_are_one design names (names_of_ports flat flat.ins) are (ports_are_flat design flat faultless h).ins in
      subst (λ n. All (λ row. length row ≡ n) rows) (ap (λ (ns : List Name). length ns) same ∙ length-map flat.ins (λ (port : FlatPort). name_of_net flat port.net)) long

  -- a run of the flat netlist gives one of the design
  run_of : (ℕ → ℕ → Bool) → ℕ → Valuation
  run_of run t = net_bits design flat (run t)

  state_of : (start : LatchState) (run : ℕ → ℕ → Bool) (t : ℕ) → flat_state_in flat (state_in_order design start) run t ≡ state_in_order design (latches_in design start (run_of run) t)
  unfolding run_of
  state_of start run zero = refl
  state_of start run (suc t) = have.next (run t)

  is_run : (start : LatchState) (rows : List (List Bool)) (run : ℕ → ℕ → Bool) → IsFlatRun flat (state_in_order design start) rows run → IsRunFrom design start rows (run_of run)
  unfolding run_of
  is_run start rows run is t row e =
      have.of_flat row (latches_in design start (run_of run) t) (run t)
      (subst (λ state. IsFlatValuation flat row state (run t)) (state_of start run t) (is t row e))

  own : (ℕ → Valuation) → ℕ → ℕ → Bool
  own run t = class_bits design (run t)

  -- and a run of the design one of the flat netlist
  module _ (start : LatchState) (rows : List (List Bool)) (run : ℕ → Valuation) (is : IsRunFrom design start rows run) where
    abbrev row : ℕ → List Bool
    row t = get_or rows t []

    abbrev latches : ℕ → LatchState
    latches t = latches_in design start run t

    solves : (t : ℕ) → t < length rows → IsValuation design (row t) (latches t) (run t)
    solves t lt = is t (row t) (slice_get-get_or rows t [] lt)

    own_state : (t : ℕ) → t ≤ length rows → flat_state_in flat (state_in_order design start) (own run) t ≡ state_in_order design (latches t)
    unfolding own
    own_state zero low = refl
    own_state (suc t) low =
        have.next (own run t)
        ∙ latches_alike design faultless clean (net_bits design flat (own run t)) (run t) (have.same_bits (row t) (latches t) (run t) (solves t (omega arith)))

    own_run : IsFlatRun flat (state_in_order design start) rows (own run)
    unfolding own
    own_run t given e =
        let within : t < length rows = slice_get_within rows t given e in
        subst (λ state. IsFlatValuation flat given state (own run t)) (sym (own_state t (omega (arith, within)))) (have.is_flat given (latches t) (run t) (is t given e))

    -- with the same bits of outputs and of nets
    same_output : (output t : ℕ) → t < length rows → flat_output_bit flat (own run t) output ≡ output_bit design (run t) output
    unfolding own
    same_output output t lt =
        ap (λ bits. get_or bits output Bool.false)
        (have.outputs (own run t) ∙ outputs_alike design faultless clean (net_bits design flat (own run t)) (run t) (have.same_bits (row t) (latches t) (run t) (solves t lt)))

    same_net : (number : ℕ) (net : Net) → slice_get (seen_nets design flat) number ≡ Some net → (t : ℕ) → t < length rows → own run t (class_of_net design net) ≡ run t net.place net.name
    unfolding own
    same_net number net e t lt = seen_has_bit design flat faultless clean h (row t) (latches t) (run t) (solves t lt) number net e

  seen_at : (number : ℕ) (net : Net) → slice_get (seen_nets design flat) number ≡ Some net → slice_get (listed_nets flat) number ≡ Some (flat_net design net)
  seen_at number net e =
      ap (λ (nets : List FlatNet). slice_get nets number) (seen_are_flat design flat h)
      ∙ slice_get-map (flat_net design) (seen_nets design flat) number
      ∙ ap (option_map (flat_net design)) e

  module _ (plane : Plane) (ports : Ports) (starts : List LatchState) (shown : ShowsFlatContexts plane ports flat (map (state_in_order design) starts)) where
    flat_contexts : (cycles : ℕ) (contexts : List (List (List Bool))) → AreInputContexts design (length starts) cycles contexts → AreFlatContexts flat (length (map (state_in_order design) starts)) cycles contexts
    flat_contexts cycles contexts are = record {
      many = are.many ∙ sym (length-map starts (state_in_order design));
      long = are.long;
      each = λ k d lt. flat_rows (get_or contexts k d) (are.each k d lt);
    }

    flat_start : (c : ℕ) (start : LatchState) → slice_get starts c ≡ Some start → slice_get (map (state_in_order design) starts) c ≡ Some (state_in_order design start)
    flat_start c start e = slice_get-map (state_in_order design) starts c ∙ ap (option_map (state_in_order design)) e

    -- runs of the design in each context are runs of the flat netlist
    own_runs : (contexts : List (List (List Bool))) (runs : ℕ → ℕ → Valuation) → AreRunsFrom (IsRunFrom design) starts contexts runs → AreRunsFrom (IsFlatRun flat) (map (state_in_order design) starts) contexts (λ c. own (runs c))
    own_runs contexts runs each c bits e = by (slice_get starts c) refl
      where
        by : (o : Option LatchState) → slice_get starts c ≡ o → IsFlatRun flat bits (get_or contexts c []) (own (runs c))
        by None none = absurd (none-some bits (ap (option_map (state_in_order design)) (sym none) ∙ sym (slice_get-map (state_in_order design) starts c) ∙ e))
        by (Some start) some =
            subst (λ (s : List Bool). IsFlatRun flat s (get_or contexts c []) (own (runs c))) (same_Some (state_in_order design start) bits (sym (flat_start c start some) ∙ e)) (own_run start (get_or contexts c []) (runs c) (each c start some))

    -- the run of a context
    run_in : (cycles : ℕ) (contexts : List (List (List Bool))) → AreInputContexts design (length starts) cycles contexts → (runs : ℕ → ℕ → Valuation) → AreRunsFrom (IsRunFrom design) starts contexts runs
        → (c : ℕ) → c < length contexts → IsRunFrom design (get_or starts c (start_state design)) (get_or contexts c []) (runs c)
    run_in cycles contexts are runs each c low = each c (get_or starts c (start_state design)) (slice_get-get_or starts c (start_state design) (omega (arith, low, are.many)))

    pub shows_contexts : ShowsContexts plane ports design starts
    shows_contexts = record {
      conductors = λ cycles contexts are. shown.conductors cycles contexts (flat_contexts cycles contexts are);
      runs = λ cycles contexts are. (let found = shown.runs cycles contexts (flat_contexts cycles contexts are) in
          ((λ c. run_of (found.0 c)), (λ c start e. is_run start (get_or contexts c []) (found.0 c) (found.1 c (state_in_order design start) (flat_start c start e)))));
      heads = λ cycles contexts are runs each output cell e g early.
          same_shown ports.l ports.p (length contexts) cycles (λ c t. flat_output_bit flat (own (runs c) t) output) (λ c t. output_bit design (runs c t) output) g (driven (context_drive ports contexts) plane g) cell.x cell.y
          (λ c t low lt. same_output (get_or starts c (start_state design)) (get_or contexts c []) (runs c) (run_in cycles contexts are runs each c low) output t (omega (arith, lt, are.long c [] low)))
          (shown.heads cycles contexts (flat_contexts cycles contexts are) (λ c. own (runs c)) (own_runs contexts runs each) output cell e g early);
    }

    pub shows_nets : ShowsNetsInContexts plane ports design starts (seen_nets design flat)
    shows_nets cycles contexts are runs each number net line is_net is_line g early =
        same_shown line.offset ports.p (length contexts) cycles (λ c t. own (runs c) t (class_of_net design net)) (λ c t. runs c t net.place net.name) g (driven (context_drive ports contexts) plane g) line.x line.y
        (λ c t low lt. same_net (get_or starts c (start_state design)) (get_or contexts c []) (runs c) (run_in cycles contexts are runs each c low) number net is_net t (omega (arith, lt, are.long c [] low)))
        (shown.nets cycles contexts (flat_contexts cycles contexts are) (λ c. own (runs c)) (own_runs contexts runs each) number (flat_net design net) line (seen_at number net is_net) is_line g early)

  -- rows of the flat netlist are input rows of the design
  design_rows : (rows : List (List Bool)) → AreFlatRows flat rows → AreInputRows design rows
  design_rows rows long =
      (names_of_ports flat flat.ins, (ports_are_flat design flat faultless h).ins, subst (λ n. All (λ row. length row ≡ n) rows) (sym (length-map flat.ins (λ (port : FlatPort). name_of_net flat port.net))) long)

  -- in runs from the start on
  module _ (plane : Plane) (ports : Ports) (rows : List (List Bool)) (shown : ShowsFlatRunsByItself plane ports flat rows) where
    start_is : start_bits flat ≡ state_in_order design (start_state design)
    start_is = have.starts

    own_from_start : (all : List (List Bool)) (run : ℕ → Valuation) → IsRunFrom design (start_state design) all run → IsFlatRun flat (start_bits flat) all (own run)
    own_from_start all run is = subst (λ (bits : List Bool). IsFlatRun flat bits all (own run)) (sym start_is) (own_run (start_state design) all run is)

    pub shows_by_itself : ShowsRunsByItself plane ports design (seen_nets design flat) rows
    shows_by_itself = record {
      run = (
        run_of shown.run.0,
        λ all after are. is_run (start_state design) all shown.run.0 (subst (λ (bits : List Bool). IsFlatRun flat bits all shown.run.0) start_is (shown.run.1 all after (flat_rows all are))),
      );
      heads = λ all after are run is output cell e g early.
          same_from ports.l ports.p (length all) (λ t. flat_output_bit flat (own run t) output) (λ t. output_bit design (run t) output) g (evolve g plane) cell.x cell.y
          (λ t lt. same_output (start_state design) all run is output t lt)
          (shown.heads all after (flat_rows all are) (own run) (own_from_start all run is) output cell e g early);
      nets = λ all after are run is number net line is_net is_line g early.
          same_from line.offset ports.p (length all) (λ t. own run t (class_of_net design net)) (λ t. run t net.place net.name) g (evolve g plane) line.x line.y
          (λ t lt. same_net (start_state design) all run is number net is_net t lt)
          (shown.nets all after (flat_rows all are) (own run) (own_from_start all run is) number (flat_net design net) line (seen_at number net is_net) is_line g early);
    }

  pub names_ports : (ports : Ports) → NamesFlat ports flat → NamesPorts ports design
  names_ports ports named =
      let flat_ports = ports_are_flat design flat faultless h in
      record { ins = subst (IsInNames design) (sym named.ins) flat_ports.ins; outs = named.outs ∙ flat_ports.outs }

pub designs_are_carried_in_contexts : DesignsAreCarriedInContexts
designs_are_carried_in_contexts text design flat faultless clean h starts k = record {
  carried = record {
    grid = k.grid;
    ports = k.ports;
    spells = k.spells;
    names = names_ports design flat faultless clean h k.ports k.names;
    contexts = k.contexts ∙ length-map starts (state_in_order design);
    shows = shows_contexts design flat faultless clean h (plane_of k.grid.rows) k.ports starts k.shows;
  };
  nets = seen_nets design flat;
  are_nets = are_seen design flat faultless clean h;
  names = k.names.nets ∙ seen_are_named design flat h;
  shows = shows_nets design flat faultless clean h (plane_of k.grid.rows) k.ports starts k.shows;
}

pub designs_are_carried : DesignsAreCarried
designs_are_carried text design flat faultless clean h k =
    let starts = (valuations_are_flat design flat faultless clean h).starts in
    (one_context_carries_nets text design).1
    (designs_are_carried_in_contexts text design flat faultless clean h (start_state design ∷ [])
    (subst (λ (bits : List Bool). CarriesFlatContexts text flat (bits ∷ [])) starts ((one_context_carries_flat text flat).0 k)))

pub designs_run_by_themselves : DesignsRunByThemselves
designs_run_by_themselves text design flat rows faultless clean h k = record {
  grid = k.grid;
  ports = k.ports;
  spells = k.spells;
  contexts = k.contexts;
  no_inputs = k.no_inputs;
  outs = k.outs ∙ (ports_are_flat design flat faultless h).outs;
  seen = seen_nets design flat;
  are_seen = are_seen design flat faultless clean h;
  nets = k.nets ∙ seen_are_named design flat h;
  rows_fit = design_rows design flat faultless clean h rows k.rows_fit;
  shows = shows_by_itself design flat faultless clean h (plane_of k.grid.rows) k.ports rows k.shows;
}

-- Runs of a netlist agree, since no covers read each other in a circle.
use Rattle.std.proofs.Common.{◌≡◌, refl, sym, ◌∙◌, ap, subst, ℕ, zero, suc, ◌<◌, ◌≤◌, ◌^◌, inl, inr, Bool, false, List, [], ◌∷◌, length, get_or, arith}
use Rattle.std.specs.Prelude.{Some, slice_get}
use Rattle.std.proofs.lemmas.Option.{slice_get-get_or}
use Rattle.std.proofs.lemmas.List.{length-map, get_or-map}
use Rattle.lists.proofs.Members.{In, in_from, in_got, contains_from}
use Rattle.netlist_core.specs.declared.model.Design.{Design}
use Rattle.netlist_core.specs.declared.model.Model.{Model}
use Rattle.netlist_core.specs.declared.model.Port.{Port}
use Rattle.netlist_core.specs.declared.model.LatchRow.{LatchRow}
use Rattle.netlist_core.specs.declared.flat.Flat.{Flat}
use Rattle.netlist_meaning.specs.Nets.{Net, net_at, IsClockNet}
use Rattle.netlist_meaning.specs.Places.{Place, model_at, latch_at, main_ports, main_outputs}
use Rattle.netlist_meaning.specs.Valuation.{Valuation, LatchState, IsValuation, IsRun, AgreeOnNets, latches_in, start_state, output_bit}
use Rattle.netlist_meaning.specs.Loop.{IsCombinationalLoop}
use Rattle.netlist_meaning.specs.Flat.{IsSound}
use Rattle.netlist_meaning.specs.FlatOrder.{IsFlatLoop}
use Rattle.netlist_meaning.specs.FlatOf.{IsFlatOf, class_of_net}
use Rattle.netlist_meaning.specs.InOrder.{nets_in_order}
use Rattle.netlist_meaning.specs.Weight.{weight}
use Rattle.netlist_rules.specs.ModelFaults.{AreFaultless}
use Rattle.netlist_rules.specs.Clocks.{HasNoClockFault, by_latch, by_main_output}
use Rattle.netlist_meaning.proofs.Names.{and_then-from}
use Rattle.flat_designs.specs.Laws.{class_bits, state_in_order}
use Rattle.flat_designs.proofs.Listed.{net_is}
use Rattle.flat_designs.proofs.Classes.{class_is}
use Rattle.flat_designs.proofs.Clocks.{clock_class}
use Rattle.flat_designs.proofs.Loops.{loops_are_flat}
use Rattle.flat_designs.proofs.Faultless.{wired}
use Rattle.flat_designs.proofs.Names.{output_name}
use Rattle.flat_designs.proofs.Sound.{has_driver, flat_is_sound, main_net, data_net}
use Rattle.flat_designs.proofs.Valuations.{is_flat, same_bit}
use Rattle.flat_designs.proofs.Whole.{flat_is_there}
use Rattle.carries.specs.Nets.{WithoutClocks}
use Rattle.program_laws.specs.NetlistRuns.{NetlistRunsAgree}
use Rattle.program_laws.proofs.Held.{held, held_by}
use Rattle.program_laws.proofs.LooplessFlats.{loopless_agree}

no_word : Port
no_word = record { line = 0; name = [] }

-- a net that is seen is a net, and no clock net
seen_net : (design : Design) (nets seen : List Net) (net : Net) → WithoutClocks design nets seen → In net seen → In net nets × ¬ IsClockNet design net
seen_net design [] seen net WithoutClocks.none i = absurd i
seen_net design (first ∷ nets) seen net (WithoutClocks.kept free more) (inl same) = (inl same, λ clock. free (subst (IsClockNet design) same clock))
seen_net design (first ∷ nets) seen net (WithoutClocks.kept {rest = rest} free more) (inr i) = let found = seen_net design nets rest net more i in (inr found.0, found.1)
seen_net design (first ∷ nets) seen net (WithoutClocks.left_out clock more) i = let found = seen_net design nets seen net more i in (inr found.0, found.1)

module _ (design : Design) (faultless : AreFaultless design.models) (clean : HasNoClockFault design) (light : weight design < 2 ^ 32) (no_loop : (nets : List Net) → IsCombinationalLoop design nets → ⊥) (flat : Flat) (h : IsFlatOf design flat) where
  no_flat_loop : (classes : List ℕ) → IsFlatLoop flat classes → ⊥
  no_flat_loop classes loop = no_loop _ ((loops_are_flat design flat faultless h).of_flat classes loop)

  -- there is at most one valuation for given input bits and given bits of the latches
  valuations_agree : (inputs : List Bool) (state other : LatchState) (bits others : Valuation) → ((place : Place) (number : ℕ) (latch : LatchRow) → latch_at design place number ≡ Some latch → other place number ≡ state place number) → IsValuation design inputs state bits → IsValuation design inputs other others → AgreeOnNets design bits others
  valuations_agree inputs state other bits others same first second net is_net free =
      let class = class_of_net design net in
      let driven = has_driver design flat faultless clean h net is_net (λ c. free (clock_class design flat faultless h net is_net c)) in
      let is = class_is design flat faultless h net is_net in
      let sound : IsSound flat = flat_is_sound design flat faultless clean h light in
      let moved : IsValuation design inputs state others = record {
        in_names = second.in_names;
        are_in_names = second.are_in_names;
        inputs_given = second.inputs_given;
        joined_agree = second.joined_agree;
        covers_hold = second.covers_hold;
        latches_hold = λ place number latch at. second.latches_hold place number latch at ∙ same place number latch at;
      } in
      let alike = loopless_agree flat sound no_flat_loop inputs (state_in_order design state) (class_bits design bits) (class_bits design others) (is_flat design flat faultless clean h inputs state bits first) (is_flat design flat faultless clean h inputs state others moved) class driven.0 driven.1 in
      sym (sym (ap (class_bits design bits) is) ∙ same_bit design flat faultless h inputs state bits first net is_net free)
      ∙ alike
      ∙ sym (ap (class_bits design others) is) ∙ same_bit design flat faultless h inputs state others moved net is_net free

  -- what is read is no clock net
  module _ (bits others : Valuation) (agree : AgreeOnNets design bits others) where
    data_agrees : (place : Place) (number : ℕ) (latch : LatchRow) → latch_at design place number ≡ Some latch → bits place latch.input ≡ others place latch.input
    data_agrees place number latch at =
        let of = and_then-from (λ (m : Model). slice_get m.latches number) (model_at design place) latch at in
        let among = in_got of.0.latches number latch of.2 in
        agree (net_at place latch.input) (data_net design place of.0 latch of.1 among) (λ clock. (wired design faultless clean).clocks_unread latch.line 0 (net_at place latch.input) (by_latch of.1 (contains_from of.0.latches latch among) refl, clock))

    pub output_agrees : (i : ℕ) → i < length (main_outputs design) → output_bit design bits i ≡ output_bit design others i
    output_agrees i within =
        let ports = main_ports (λ (m : Model). m.outs) design in
        let low : i < length ports = (let many = length-map ports (λ (p : Port). p.name) in omega (arith, within, many)) in
        let port = get_or ports i no_word in
        let at = slice_get-get_or ports i no_word low in
        let name : get_or (main_outputs design) i [] ≡ port.name = get_or-map (λ (p : Port). p.name) ports i no_word [] low in
        get_or-map (bits []) (main_outputs design) i [] false within ∙ ap (bits []) name
        ∙ agree (net_at [] port.name) (main_net design (λ (m : Model). m.outs) output_name port (in_got ports i port at)) (λ clock. (wired design faultless clean).clocks_unread port.line i (net_at [] port.name) (by_main_output at, clock))
        ∙ sym (get_or-map (others []) (main_outputs design) i [] false within ∙ ap (others []) name)

  module _ (rows : List (List Bool)) (run other : ℕ → Valuation) (is : IsRun design rows run) (is_other : IsRun design rows other) where
    abbrev row : ℕ → List Bool
    row t = get_or rows t []

    -- the states of a cycle are alike
    abbrev state : (ℕ → Valuation) → ℕ → LatchState
    state run t = latches_in design (start_state design) run t

    from_held : (t : ℕ) → t < length rows → ((place : Place) (number : ℕ) (latch : LatchRow) → latch_at design place number ≡ Some latch → held run place latch t ≡ held other place latch t) → AgreeOnNets design (run t) (other t)
    from_held t low same =
        valuations_agree (row t) (state run t) (state other t) (run t) (other t) (λ place number latch at. held_by design other t place number latch at ∙ sym (same place number latch at) ∙ sym (held_by design run t place number latch at)) (is t (row t) (slice_get-get_or rows t [] low)) (is_other t (row t) (slice_get-get_or rows t [] low))

    pub cycles_agree : (t : ℕ) → t < length rows → AgreeOnNets design (run t) (other t)
    cycles_agree zero low = from_held zero low (λ place number latch at. refl)
    cycles_agree (suc t) low = from_held (suc t) low (data_agrees (run t) (other t) (cycles_agree t (omega (arith, low))))

pub netlist_runs_agree : NetlistRunsAgree
netlist_runs_agree text design netlist seen are =
    record {
      outs = λ rows fit run other is is_other t i low within. output_agrees design faultless netlist.clocks light netlist.no_loop flat.0 flat.1 (run t) (other t) (agree rows run other is is_other t low) i within;
      nets = λ rows fit run other is is_other t net low among. (let found = seen_net design (nets_in_order design) seen net are (in_from seen net among) in
          agree rows run other is is_other t low net (net_is design net found.0) found.1);
    }
  where
    faultless : AreFaultless design.models
    faultless = netlist.is.design_of.faultless

    light : weight design < 2 ^ 32
    light = let few : weight design ≤ 8192 = netlist.is.light in omega (arith, few)

    flat : (flat : Flat) × IsFlatOf design flat
    flat = flat_is_there design faultless

    agree : (rows : List (List Bool)) (run other : ℕ → Valuation) → IsRun design rows run → IsRun design rows other → (t : ℕ) → t < length rows → AgreeOnNets design (run t) (other t)
    agree rows run other is is_other = cycles_agree design faultless netlist.clocks light netlist.no_loop flat.0 flat.1 rows run other is is_other

-- A text that carries the flat netlist of a circuit carries the circuit.
use Rattle.std.proofs.Common.{◌≡◌, refl, sym, ◌∙◌, ap, subst, ℕ, zero, suc, ◌<◌, ◌≤◌, Bool, false, cond, List, [], ◌∷◌, length, map, replicate, get_or, arith}
use Rattle.std.specs.Prelude.{Some, slice_get, All}
use Rattle.std.proofs.lemmas.List.{length-map, length-replicate}
use Rattle.std.proofs.lemmas.Option.{slice_get-get_or, slice_get_within}
use Rattle.ww_rule.specs.Wireworld.{driven}
use Rattle.ww_rule.specs.Grid.{plane_of}
use Rattle.pattern_reading.specs.declared.ports.NetLine.{NetLine}
use Rattle.place_paths.specs.Paths.{name_and_path, names_and_paths}
use Rattle.netlist_core.specs.declared.flat.Flat.{Flat}
use Rattle.netlist_core.specs.declared.flat.Net.{Net as FlatNet}
use Rattle.netlist_meaning.specs.Flat.{nets_but_clocks}
use Rattle.netlist_meaning.specs.FlatValuation.{IsFlatValuation, IsFlatRun, AreFlatRows, start_bits, flat_state_in, flat_output_bit}
use Rattle.aiger_text.specs.declared.aig.Aig.{Aig}
use Rattle.aiger_meaning.specs.Circuit.{IsAigValuation, IsAigRun, AreAigRows, aig_state_in, aig_output_bit}
use Rattle.aiger_meaning.specs.Lowered.{IsLowered, AreSameCycle}
use Rattle.carries.specs.Cells.{drive}
use Rattle.carries.specs.FlatNets.{CarriesFlat}
use Rattle.carries.proofs.Cycles.{same_from}
use Rattle.aiger_plans.specs.CarriesAig.{ShowsAigRuns}
use Rattle.aiger_plans.specs.Laws.{AigsAreCarried}
use Rattle.aiger_plans.proofs.SameRuns.{other_run, each_cycle}

module _ (text : List ℕ) (aig : Aig) (flat : Flat) (c : CarriesFlat text flat) (l : IsLowered aig flat) where
  -- no net is listed, and so the table has no line for one
  no_nets : c.ports.nets ≡ []
  no_nets = by c.ports.nets (c.names.nets ∙ ap (λ listed. map (λ (net : FlatNet). name_and_path net.place net.name) (cond listed (nets_but_clocks flat) [])) l.unlisted)
    where
      by : (lines : List NetLine) → names_and_paths lines ≡ [] → lines ≡ []
      by [] e = refl
      by (line ∷ lines) e = absurd (omega (arith, ap length e))

  -- one row of 0 has a run, and so the circuit has as many inputs
  many_inputs : length flat.ins ≡ length aig.inputs
  many_inputs =
      let row = replicate (length flat.ins) false in
      let run = c.shows.runs (row ∷ []) one_row in
      let cycle = l.of_flat row (start_bits flat) (run.0 0) (run.1 0 row refl) in
      sym (length-replicate (length flat.ins) false) ∙ ap (λ (bits : List Bool). length bits) (sym cycle.1.inputs_given) ∙ length-map aig.inputs cycle.0
    where
      one_row : AreFlatRows flat (replicate (length flat.ins) false ∷ [])
      one_row zero d lt = length-replicate (length flat.ins) false
      one_row (suc k) d lt = absurd (omega (arith, lt))

  flat_rows : (rows : List (List Bool)) → AreAigRows aig rows → AreFlatRows flat rows
  flat_rows rows are = subst (λ n. All (λ row. length row ≡ n) rows) (sym many_inputs) are

  -- a run of the flat netlist gives one of the circuit
  module _ (rows : List (List Bool)) (run : ℕ → ℕ → Bool) (is : IsFlatRun flat (start_bits flat) rows run) where
    state : ℕ → List Bool
    state t = flat_state_in flat (start_bits flat) run t

    aig_run : ℕ → ℕ → Bool
    aig_run = other_run (IsFlatValuation flat) (IsAigValuation aig) (λ class_bits bits. AreSameCycle aig flat bits class_bits) l.of_flat rows (λ t. flat_state_in flat (start_bits flat) run t) run is (λ _. false)

    in_cycle : (t : ℕ) (row : List Bool) → slice_get rows t ≡ Some row → IsAigValuation aig row (flat_state_in flat (start_bits flat) run t) (aig_run t) × AreSameCycle aig flat (aig_run t) (run t)
    unfolding aig_run
    in_cycle = each_cycle (IsFlatValuation flat) (IsAigValuation aig) (λ class_bits bits. AreSameCycle aig flat bits class_bits) l.of_flat rows (λ t. flat_state_in flat (start_bits flat) run t) run is (λ _. false)

    same_state : (t : ℕ) → t ≤ length rows → flat_state_in flat (start_bits flat) run t ≡ aig_state_in aig aig_run t
    same_state zero low = l.starts
    same_state (suc t) low = (in_cycle t (get_or rows t []) (slice_get-get_or rows t [] (omega (arith, low)))).1.next

    is_aig_run : IsAigRun aig rows aig_run
    is_aig_run t row e =
        let within : t < length rows = slice_get_within rows t row e in
        subst (λ state. IsAigValuation aig row state (aig_run t)) (same_state t (omega (arith, within))) (in_cycle t row e).0

  -- and a run of the circuit one of the flat netlist
  module _ (rows : List (List Bool)) (run : ℕ → ℕ → Bool) (is : IsAigRun aig rows run) where
    flat_run : ℕ → ℕ → Bool
    flat_run = other_run (IsAigValuation aig) (IsFlatValuation flat) (AreSameCycle aig flat) l.is_flat rows (λ t. aig_state_in aig run t) run is (λ _. false)

    in_flat_cycle : (t : ℕ) (row : List Bool) → slice_get rows t ≡ Some row → IsFlatValuation flat row (aig_state_in aig run t) (flat_run t) × AreSameCycle aig flat (run t) (flat_run t)
    unfolding flat_run
    in_flat_cycle = each_cycle (IsAigValuation aig) (IsFlatValuation flat) (AreSameCycle aig flat) l.is_flat rows (λ t. aig_state_in aig run t) run is (λ _. false)

    same_flat_state : (t : ℕ) → t ≤ length rows → aig_state_in aig run t ≡ flat_state_in flat (start_bits flat) flat_run t
    same_flat_state zero low = sym l.starts
    same_flat_state (suc t) low = sym (in_flat_cycle t (get_or rows t []) (slice_get-get_or rows t [] (omega (arith, low)))).1.next

    is_flat_run : IsFlatRun flat (start_bits flat) rows flat_run
    is_flat_run t row e =
        let within : t < length rows = slice_get_within rows t row e in
        subst (λ state. IsFlatValuation flat row state (flat_run t)) (same_flat_state t (omega (arith, within))) (in_flat_cycle t row e).0

    -- with the same bits of outputs
    same_output : (output t : ℕ) → t < length rows → flat_output_bit flat (flat_run t) output ≡ aig_output_bit aig (run t) output
    same_output output t lt = ap (λ bits. get_or bits output false) (in_flat_cycle t (get_or rows t []) (slice_get-get_or rows t [] lt)).1.outputs

  shows : ShowsAigRuns (plane_of c.grid.rows) c.ports aig
  shows = record {
    conductors = λ rows are. c.shows.conductors rows (flat_rows rows are);
    runs = λ rows are. (let found = c.shows.runs rows (flat_rows rows are) in (aig_run rows found.0 found.1, is_aig_run rows found.0 found.1));
    heads = λ rows are run is output cell e g early.
        same_from c.ports.l c.ports.p (length rows) (λ t. flat_output_bit flat (flat_run rows run is t) output) (λ t. aig_output_bit aig (run t) output) g (driven (drive c.ports rows) (plane_of c.grid.rows) g) cell.x cell.y
        (λ t lt. same_output rows run is output t lt)
        (c.shows.heads rows (flat_rows rows are) (flat_run rows run is) (is_flat_run rows run is) output cell e g early);
  }

pub aigs_are_carried : AigsAreCarried
aigs_are_carried text aig flat c l = record {
  grid = c.grid;
  ports = c.ports;
  spells = c.spells;
  contexts = c.contexts;
  names = record { ins = c.names.ins ∙ l.in_names; outs = c.names.outs ∙ l.out_names; nets = no_nets text aig flat c l };
  shows = shows text aig flat c l;
}

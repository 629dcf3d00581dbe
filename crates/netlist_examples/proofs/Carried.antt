-- A text without ports carries a model without ports.
use Rattle.std.proofs.Common.{◌≡◌, refl, sym, ap, ◌∙◌, subst, ℕ, ◌<◌, Bool, false, List, [], length, get_or, arith}
use Rattle.std.specs.Prelude.{Some, slice_get, All, Contains}
use Rattle.std.proofs.lemmas.Option.{none-some, slice_get_within, get_or_from_slice_get}
use Rattle.std.proofs.lemmas.List.{nil_from_length}
use Rattle.std.proofs.lemmas.List.Elements.{All-get_or}
use Rattle.ww_rule.specs.Grid.{plane_of}
use Rattle.ww_rule.proofs.Streams.{streams_injected}
use Rattle.netlist_core.specs.declared.model.Model.{Model}
use Rattle.netlist_core.specs.declared.model.Cover.{Cover}
use Rattle.netlist_meaning.specs.Places.{Place, model_at}
use Rattle.netlist_meaning.specs.Nets.{Net, IsControl, IsInNames}
use Rattle.netlist_meaning.specs.Valuation.{Valuation, LatchState, AreInputRows, IsValuation, IsRun, latches_in, start_state}
use Rattle.netlist_meaning.proofs.SingleModel.{IsFlat, model_at-flat, no_latch-flat, all_in_names}
use Rattle.netlist_meaning.proofs.Joined.{in_names_are_one}
use Rattle.pattern_writing.specs.SamplePorts.{bare_ports}
use Rattle.pattern_writing.proofs.Samples.{bare_reads, bare_has_ports}
use Rattle.carries.specs.Cells.{drive}
use Rattle.carries.specs.Carries.{ShowsRuns}
use Rattle.ww_rule.specs.Injections.{MeetsConductors}
use Rattle.netlist_examples.specs.Carried.{bare_model, bare_design, BareIsCarried}

flat : IsFlat bare_design bare_model
flat = record { models = refl; subckts = refl }

no_control : (net : Net) → IsControl bare_design net → ⊥
no_control net (source, is_source, _) =
    no_latch-flat bare_design bare_model flat refl source.place is_source.number is_source.latch is_source.has_latch

in_names : IsInNames bare_design []
in_names = all_in_names bare_design no_control []

valuation : (state : LatchState) → IsValuation bare_design [] state (λ place name. false)
valuation state =
    record {
      in_names = [];
      are_in_names = in_names;
      inputs_given = refl;
      joined_agree = λ a b e away. refl;
      covers_hold = λ place model cover is_model has. absurd (no_cover place model cover is_model has);
      latches_hold = λ place number latch is_latch. absurd (no_latch-flat bare_design bare_model flat refl place number latch is_latch);
    }
  where
    no_cover : (place : Place) (model : Model) (cover : Cover) → model_at bare_design place ≡ Some model → Contains model.covers cover → ⊥
    no_cover place model cover is_model has =
        let is_bare = (model_at-flat bare_design bare_model flat place model is_model).1 in
        let within : has.0 < length model.covers = has.1 in
        let none : length model.covers ≡ 0 = ap (λ m. length m.covers) is_bare in
        omega (arith, within, none)

-- the rows have no bits
no_bits : (rows : List (List Bool)) → AreInputRows bare_design rows → (t : ℕ) (row : List Bool) → slice_get rows t ≡ Some row → row ≡ []
no_bits rows (names, are, long) t row e =
    let same : names ≡ [] = in_names_are_one bare_design names [] are in_names in
    let within = slice_get_within rows t row e in
    let short : length (get_or rows t []) ≡ 0 = All-get_or (λ row. length row ≡ 0) rows t [] within (subst (λ ns. All (λ row. length row ≡ length ns) rows) same long) in
    nil_from_length row (ap length (sym (get_or_from_slice_get rows t row [] e)) ∙ short)

run : ℕ → Valuation
run t place name = false

is_run : (rows : List (List Bool)) → AreInputRows bare_design rows → IsRun bare_design rows run
unfolding run
is_run rows are t row e = subst (λ r. IsValuation bare_design r (latches_in bare_design (start_state bare_design) run t) (run t)) (sym (no_bits rows are t row e)) (valuation (latches_in bare_design (start_state bare_design) run t))

nothing_due : (rows : List (List Bool)) → MeetsConductors (drive bare_ports rows) (plane_of [])
nothing_due rows g x y e = let b = (streams_injected 32 [] rows g x y).0 e in absurd (omega (arith, b.in_cells))

shows : ShowsRuns (plane_of []) bare_ports bare_design
shows =
    record {
      conductors = λ rows are. nothing_due rows;
      runs = λ rows are. (run, is_run rows are);
      heads = λ rows are run is output cell e. absurd (none-some cell e);
    }

pub bare_is_carried : BareIsCarried
bare_is_carried =
    record {
      grid = record { width = 0; height = 0; rows = [] };
      ports = bare_ports;
      spells = record { reads = bare_reads; table = bare_has_ports };
      contexts = refl;
      names = record { ins = in_names; outs = refl };
      shows = shows;
    }

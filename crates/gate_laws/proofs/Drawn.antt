-- A drawing that passes the test keeps the law of crossings.
use Rattle.std.proofs.Common.{ℕ, ◌<◌, ◌≡◌, sym, ap, ◌∙◌, Bool, true, false, List, [], ◌∷◌, length, map, get_or, arith}
use Rattle.std.specs.Prelude.{All}
use Rattle.std.proofs.lemmas.Bool.{and_from, true≢false, false_from_ne_true}
use Rattle.std.proofs.lemmas.List.{length-map, get_or-map}
use Rattle.std.proofs.lemmas.List.Elements.{All-get_or}
use Rattle.lists.specs.Items.{flag_at, list_at}
use Rattle.ww_rule.specs.declared.pattern.State.{State}
use Rattle.gate_laws.specs.declared.window.OutCell.{OutCell}
use Rattle.gate_laws.specs.Gates.{AnswersInTime}
use Rattle.gate_laws.specs.Drawings.{out_table, out_port_of, window_gate, HasCells, IsSized}
use Rattle.gate_laws.proofs.BitNumbers.{no_out}
use Rattle.gate_laws.proofs.Windows.{drawn_from}
use Rattle.gate_laws.specs.Crossings.{KeepsCrossingLaw}
use Rattle.gate_laws.specs.Drawn.{window_crossing, two_inputs, IsOfOne}

module _ (cells : List State) (width : ℕ) (first second : ℕ × ℕ) (outs : List OutCell) (time : ℕ) where
  abbrev Answers : List Bool → Type 0
  Answers bits = AnswersInTime (window_gate cells width (two_inputs first second) outs time) bits

  table_is : (o : ℕ) → o < length outs → list_at (map out_table outs) o ≡ out_table (get_or outs o no_out)
  table_is o low = get_or-map out_table outs o no_out [] low

  pub crossing_from : IsSized cells width (two_inputs first second) time → HasCells cells width (two_inputs first second) outs time → Answers (false ∷ false ∷ []) → Answers (true ∷ false ∷ []) → Answers (false ∷ true ∷ []) → All IsOfOne outs → KeepsCrossingLaw (window_crossing cells width first second outs time)
  crossing_from sized has none one two each =
      record {
        drawn = drawn_from cells width (two_inputs first second) outs time sized has;
        by_first = by_first;
        by_second = by_second;
        by_none = λ o low. (let within : o < length outs = omega (arith, low, length-map outs out_port_of) in ap (λ t. flag_at t 0) (table_is o within) ∙ (at o within).none);
        by_one = λ o low second. (let within : o < length outs = omega (arith, low, length-map outs out_port_of) in
            let lit : flag_at (out_table (get_or outs o no_out)) 2 ≡ true = sym (ap (λ t. flag_at t 2) (table_is o within)) ∙ second in
            ap (λ t. flag_at t 1) (table_is o within) ∙ false_from_ne_true _ (λ e. true≢false (sym (and_from _ _ e lit) ∙ (at o within).one)));
      }
    where
      at : (o : ℕ) → o < length outs → IsOfOne (get_or outs o no_out)
      at o low = All-get_or IsOfOne outs o no_out low each

      by_first : (bit : Bool) → Answers (bit ∷ false ∷ [])
      by_first false = none
      by_first true = one

      by_second : (bit : Bool) → Answers (false ∷ bit ∷ [])
      by_second false = none
      by_second true = two

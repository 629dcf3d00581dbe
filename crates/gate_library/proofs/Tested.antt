-- What the tests of a drawing show.
use Rattle.std.proofs.Common.{ℕ, ◌<◌, ◌≡◌, sym, ap, ◌∙◌, subst, inl, inr, Bool, List, [], length, map, get_or, arith}
use Rattle.std.specs.Prelude.{◌≢◌}
use Rattle.std.proofs.lemmas.Bool.{cases_order}
use Rattle.std.proofs.lemmas.List.{length-map, get_or-map}
use Rattle.lists.specs.Items.{flag_at, list_at}
use Rattle.ww_rule.specs.declared.pattern.State.{State}
use Rattle.gate_laws.specs.declared.window.InCell.{InCell}
use Rattle.gate_laws.specs.declared.window.OutCell.{OutCell}
use Rattle.gate_laws.specs.Gates.{KeepsGateLaw}
use Rattle.gate_laws.specs.Drawings.{in_at, out_port_of, out_table, number_of_bits, window_gate}
use Rattle.gate_laws.specs.Crossings.{KeepsCrossingLaw}
use Rattle.gate_laws.specs.Drawn.{window_crossing}
use Rattle.gate_library.specs.declared.gate.Answer.{Answer}
use Rattle.gate_library.specs.declared.gate.Answer.TheVariants.{Copy}
use Rattle.gate_laws.proofs.Crossings.{crossings_copy}
use Rattle.gate_library.specs.declared.gate.Timing.{Timing}
use Rattle.gate_library.specs.declared.gate.Timing.TheVariants.{Together, Apart}
use Rattle.gate_library.specs.declared.gate.GateDrawing.{GateDrawing}
use Rattle.gate_library.specs.Lawful.{own_cell, gate_together, crossing_apart, gate_by, input_cell, answer_bit, answer_at, no_out, KeepsLawOf, SaysAnswer, IsLawful}

-- the table of an output, by its number
table_at : (outs : List OutCell) (o : ℕ) → o < length outs → list_at (map out_table outs) o ≡ (get_or outs o no_out).table
table_at outs o low = get_or-map out_table outs o no_out [] low

answered : (timing : Timing) (d : GateDrawing) → KeepsLawOf timing d → (o : ℕ) → o < length d.outs → SaysAnswer timing (length d.ins) (get_or d.outs o no_out) (answer_at d o) → (later : ℕ) (bits : List Bool) → length bits ≡ length d.ins → (gate_by timing d later).answer bits o ≡ answer_bit bits (answer_at d o)
answered Together d law o low says later bits same = ap (λ table. flag_at table (number_of_bits bits)) (table_at d.outs o low) ∙ says bits same
answered Apart d law o low (inl (copy, lit)) later bits same =
    let few = length-map d.outs out_port_of in
    let own = crossings_copy (crossing_apart d) law.1 later bits o (omega (arith, low, few)) in
    own.1 (ap (λ table. flag_at table 1) (table_at d.outs o low) ∙ lit) ∙ ap (answer_bit bits) (sym copy)
answered Apart d law o low (inr (copy, lit)) later bits same =
    let few = length-map d.outs out_port_of in
    let own = crossings_copy (crossing_apart d) law.1 later bits o (omega (arith, low, few)) in
    own.0 (ap (λ table. flag_at table 2) (table_at d.outs o low) ∙ lit) ∙ ap (answer_bit bits) (sym copy)

own_cells : (d : GateDrawing) → ((i : ℕ) → i < length d.ins → (j : ℕ) → j < i → input_cell d i ≢ input_cell d j) → (i j : ℕ) → i < length d.ins → j < length d.ins → input_cell d i ≡ input_cell d j → i ≡ j
own_cells d differ i j low low' e =
    elim (cases_order i j) [
      | inl same ↦ same
      | inr (inl less) ↦ absurd (differ j low' i less (sym e))
      | inr (inr more) ↦ absurd (differ i low j more e)
    ]

whole : (d : GateDrawing) → 0 < d.width → KeepsLawOf d.timing d → ((i : ℕ) → i < length d.ins → (j : ℕ) → j < i → input_cell d i ≢ input_cell d j) → ((o : ℕ) → o < length d.outs → SaysAnswer d.timing (length d.ins) (get_or d.outs o no_out) (answer_at d o)) → IsLawful d
whole d wide law differ says = record {
  wide = wide;
  law = law;
  inputs = own_cells d differ;
  answers = λ later bits same o low. answered d.timing d law o low (says o low) later bits same;
}

-- the same with slices that have the drawing's lists
pub lawful : (d : GateDrawing) (ins : List InCell) (outs : List OutCell) (answers : List Answer) → ins ≡ d.ins → outs ≡ d.outs → answers ≡ d.answers → 0 < d.width → KeepsLawOf d.timing d → ((i : ℕ) → i < length ins → (j : ℕ) → j < i → own_cell (in_at ins i) ≢ own_cell (in_at ins j)) → ((o : ℕ) → o < length outs → SaysAnswer d.timing (length ins) (get_or outs o no_out) (get_or answers o (Copy 0))) → IsLawful d
lawful d ins outs answers e f g wide law differ says =
    let P : List InCell → Type 0 = λ ins. (i : ℕ) → i < length ins → (j : ℕ) → j < i → own_cell (in_at ins i) ≢ own_cell (in_at ins j) in
    let Q : List InCell → List OutCell → List Answer → Type 0 = λ ins outs answers. (o : ℕ) → o < length outs → SaysAnswer d.timing (length ins) (get_or outs o no_out) (get_or answers o (Copy 0)) in
    whole d wide law (subst P e differ) (subst (λ ins. Q ins d.outs d.answers) e (subst (λ outs. Q ins outs d.answers) f (subst (Q ins outs) g says)))

pub kept_together : (d : GateDrawing) (cells : List State) (ins : List InCell) (outs : List OutCell) → cells ≡ d.cells → ins ≡ d.ins → outs ≡ d.outs → KeepsGateLaw (window_gate cells d.width ins outs d.time) → KeepsGateLaw (gate_together d)
kept_together d cells ins outs e f g law =
    let P : List State → List InCell → List OutCell → Type 0 = λ cells ins outs. KeepsGateLaw (window_gate cells d.width ins outs d.time) in
    subst (λ cells. P cells d.ins d.outs) e (subst (λ ins. P cells ins d.outs) f (subst (P cells ins) g law))

pub kept_apart : (d : GateDrawing) (cells : List State) (first second : ℕ × ℕ) (outs : List OutCell) → cells ≡ d.cells → first ≡ input_cell d 0 → second ≡ input_cell d 1 → outs ≡ d.outs → KeepsCrossingLaw (window_crossing cells d.width first second outs d.time) → KeepsCrossingLaw (crossing_apart d)
kept_apart d cells first second outs e f g h law =
    let P : List State → ℕ × ℕ → ℕ × ℕ → List OutCell → Type 0 = λ cells first second outs. KeepsCrossingLaw (window_crossing cells d.width first second outs d.time) in
    subst (λ cells. P cells (input_cell d 0) (input_cell d 1) d.outs) e (subst (λ first. P cells first (input_cell d 1) d.outs) f (subst (λ second. P cells first second d.outs) g (subst (P cells first second) h law)))

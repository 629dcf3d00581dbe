use Rattle.std.proofs.Common.{ℕ, ◌≡◌, List, length, map, sym, arith}
use Rattle.std.proofs.lemmas.List.{length-map}
use Rattle.std.proofs.lemmas.Bool.{ltb-true, ltb-false}
use Rattle.port_table.proofs.Fields.{no_form}
use Rattle.port_table.proofs.forms.form_of_fields.Goals as goal
use Rattle.port_table.proofs.forms.form_of_fields.Goals.{in_default-via-then-fields-lt4, in_default-via-else-fields-lt4+else-fields-lt5+else-fields-lt6+else-fields-lt7+else-fields-lt8}

pub returns-in_default : goal.returns-in_default
returns-in_default c =
    let fields : List (List ℕ) = map (λ f. f.now) c.args.fields.now in
    let n : length fields ≡ length c.args.fields.now = length-map c.args.fields.now (λ f. f.now) in
    elim c.in_default.branch [
      | in_default-via-then-fields-lt4 w ↦ sym (no_form c.args.version fields (λ e. omega (arith, n, e, ltb-true, ltb-false)) (λ e. omega (arith, n, e, ltb-true, ltb-false)) (λ e. omega (arith, n, e, ltb-true, ltb-false)) (λ e. omega (arith, n, e, ltb-true, ltb-false)))
      | in_default-via-else-fields-lt4+else-fields-lt5+else-fields-lt6+else-fields-lt7+else-fields-lt8 w ↦ sym (no_form c.args.version fields (λ e. omega (arith, n, e, ltb-true, ltb-false)) (λ e. omega (arith, n, e, ltb-true, ltb-false)) (λ e. omega (arith, n, e, ltb-true, ltb-false)) (λ e. omega (arith, n, e, ltb-true, ltb-false)))
    ]

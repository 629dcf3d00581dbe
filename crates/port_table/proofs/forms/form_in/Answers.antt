use Rattle.std.proofs.Common.{◌==◌, ◌∙◌, ap, map}
use Rattle.std.specs.List.{slice_split}
use Rattle.std.proofs.lemmas.Result.{IfOk-weaker}
use Rattle.pattern_reading.specs.PortLines.{form_of_fields}
use Rattle.port_table.proofs.Fields.{first_eight}
use Rattle.port_table.proofs.forms.form_in.Goals as goal

pub returns : goal.returns
returns c =
    let v = c.args.version in
    let same =
    ap (λ fields. form_of_fields v (map (λ f. f.now) fields)) c.deref.ensures.value
    ∙ ap (form_of_fields v) c.in_ok-fields.ensures
    ∙ first_eight v (slice_split (λ b. b == 32) c.args.entry.now) in
    IfOk-weaker c.form_of_fields.result _ _ (λ form is. is ∙ same) c.form_of_fields.ensures

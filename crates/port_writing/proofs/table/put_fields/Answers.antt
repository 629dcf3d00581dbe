use Rattle.std.proofs.Common.{◌+◌, ℕ, List, [], ◌∷◌, ◌++◌, drop, ◌∙◌}
use Rattle.lists.proofs.Results.{on_err}
use Rattle.port_writing.specs.Lines.{spaced}
use Rattle.ww_base.specs.Pages.{held}
use Rattle.ww_base.proofs.Steps.{wrote_then, wrote_broke, wrote_to}
use Rattle.ww_base.proofs.LeftPieces.{piece_next}
use Rattle.port_writing.proofs.table.put_fields.Goals as goal

pub returns-in_err-put_field-clause-err : goal.returns-in_err-put_field-clause-err
returns-in_err-put_field-clause-err g c =
    let f = λ (rest : List ℕ).
    let next = piece_next (λ field. 32 ∷ field.now) (held c.loop-field.page) c.args.fields.now c.loop-field.field-index (record { ref_ptr = (0, 0); now = [] }) rest c.loop-field-test.true in
    wrote_broke (wrote_to next (c.loop-field.invariant.wrote rest)) (c.in_err-put_field.ensures.err (spaced (drop (c.loop-field.field-index + 1) c.args.fields.now) ++ rest)) in
    on_err _ f

pub loop-field-preserved : goal.loop-field-preserved
loop-field-preserved g c = record {
  column = c.put_field.ensures.column ∙ c.loop-field.invariant.column;
  wrote = λ rest.
      let next = piece_next (λ field. 32 ∷ field.now) (held c.loop-field.page) c.args.fields.now c.loop-field.field-index (record { ref_ptr = (0, 0); now = [] }) rest c.loop-field-test.true in
      wrote_then (wrote_to next (c.loop-field.invariant.wrote rest)) (c.in_ok-put_field.ensures.ok (spaced (drop (c.loop-field.field-index + 1) c.args.fields.now) ++ rest));
}

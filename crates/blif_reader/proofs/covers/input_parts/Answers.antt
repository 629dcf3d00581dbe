use Rattle.std.proofs.Common.{ap, ◌∙◌, [], arith}
use Rattle.lists.proofs.Cuts.{added_more}
use Rattle.blif_text.specs.declared.logical.Logical.{Logical}
use Rattle.blif_text.specs.Models.{input_part}
use Rattle.blif_reader.proofs.covers.input_parts.Goals as goal

pub loop-row-preserved : goal.loop-row-preserved
loop-row-preserved c =
    let part = λ (row : Logical). input_part row.words in
    let row = c.row-item.result in
    added_more part [] c.loop-row.parts.items c.push.new.self.items c.args.rows.now c.loop-row.row-index row c.in_ok-copied.field-0 (omega arith)
    c.in_ok-push.ensures.items (c.in_ok-copied.ensures ∙ c.input_part.ensures ∙ ap input_part c.as_slice.ensures ∙ ap part c.row-item.is) c.loop-row.invariant

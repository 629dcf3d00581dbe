use Rattle.std.proofs.Common.{◌≡◌, ◌+◌, ◌∙◌, ℕ, List, [], ◌++◌, length, replicate, sym, ap, subst}
use Rattle.std.specs.Prelude.{IfSome}
use Rattle.ww_rule.specs.declared.pattern.State.{State}
use Rattle.rle_write.specs.Left.{row_left, text_left}
use Rattle.rle_write.specs.Runs.{spelled}
use Rattle.rle_write.specs.Steps.{IsStepOver}
use Rattle.ww_base.specs.Pages.{held, column_of}
use Rattle.lists.proofs.Results.{on_err}
use Rattle.ww_base.proofs.Steps.{wrote_as, wrote_to, broke_as}
use Rattle.rle_write.proofs.StepTexts.{step_taken}
use Rattle.rle_write.proofs.copies.add_step.Goals as goal

pub returns-in_err-put-clause-err : goal.returns-in_err-put-clause-err
returns-in_err-put-clause-err g c =
    let step = c.in-Some.step in
    let after = step.after in
    let over : IsStepOver step.from c.args.runs.now c.args.bytes.now after =
    subst (λ o. IfSome o (λ s. IsStepOver s.from c.args.runs.now c.args.bytes.now s.after)) c.in-Some.is c.requires.step in
    let bytes : List ℕ = c.args.bytes.now in
    let column : ℕ = column_of c.args.page.now in
    let f = λ (more : List ℕ) (rows : List (List State)).
    broke_as
    (step_taken (held c.args.page.now) column c.args.kept step.from after (spelled c.args.runs.now) bytes (c.is_here.ensures.due c.if-not-is_here.false)
    (c.is_here.ensures.from c.if-not-is_here.false) over.step (c.is_here.ensures.room c.if-not-is_here.false) more rows)
    (c.in_err-put.ensures.err (text_left [] (column + length bytes) (row_left 0 (replicate after.count after.tag ++ more) rows))) in
    on_err _ f

pub returns-clause-ok : goal.returns-clause-ok
returns-clause-ok g c more rows =
    let step = c.in-Some.step in
    let after = step.after in
    let over : IsStepOver step.from c.args.runs.now c.args.bytes.now after =
    subst (λ o. IfSome o (λ s. IsStepOver s.from c.args.runs.now c.args.bytes.now s.after)) c.in-Some.is c.requires.step in
    let bytes : List ℕ = c.args.bytes.now in
    let column : ℕ = column_of c.args.page.now in
    let row : List ℕ = row_left 0 (replicate after.count after.tag ++ more) rows in
    let now : column_of c.advance.new.self ≡ column + length bytes = c.advance.ensures.column ∙ ap (λ k. k + length bytes) c.put.ensures.column in
    wrote_as
    (step_taken (held c.args.page.now) column c.args.kept step.from after (spelled c.args.runs.now) bytes (c.is_here.ensures.due c.if-not-is_here.false)
    (c.is_here.ensures.from c.if-not-is_here.false) over.step (c.is_here.ensures.room c.if-not-is_here.false) more rows)
    (wrote_to
    (ap (λ h. h ++ text_left [] (column + length bytes) row) (sym c.advance.ensures.held) ∙ ap (λ k. text_left (held c.advance.new.self) k row) (sym now))
    (c.in_ok-put.ensures.ok (text_left [] (column + length bytes) row)))

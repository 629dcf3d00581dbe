use Rattle.std.proofs.Common.{◌≢◌, ◌∙◌, sym, ℕ, List, [], ◌∷◌, ◌++◌, ap, codes, map, arith}
use Rattle.ww_rule.specs.declared.pattern.State.{State}
use Rattle.pattern_writing.specs.Writer.{TagRun, run_text, runs_of}
use Rattle.rle_write.specs.Left.{row_left, end_items, items_left, IsRunBefore}
use Rattle.ww_base.specs.Pages.{held, column_of}
use Rattle.lists.proofs.Results.{on_err}
use Rattle.ww_base.proofs.Steps.{wrote_then, wrote_broke, wrote_as, broke_as}
use Rattle.rle_write.proofs.Tags.{row_left_run}
use Rattle.rle_write.proofs.rows.write_run.Goals as goal

pub returns-in_err-write_ends-clause-err : goal.returns-in_err-write_ends-clause-err
returns-in_err-write_ends-clause-err g c =
    let some : c.args.run.count ≢ 0 = omega arith in
    let f = λ (tags : List ℕ) (rows : List (List State)) (before : IsRunBefore c.args.run.count c.args.run.tag tags).
    broke_as
    (ap (items_left (held c.args.page.now) (column_of c.args.page.now)) (row_left_run c.args.ends c.args.run.count c.args.run.tag tags rows some c.requires.other before))
    (c.in_err-write_ends.ensures.err (record { count = c.args.run.count; tag = c.args.run.tag } ∷ runs_of (row_left 0 tags rows))) in
    on_err _ f

pub returns-in_err-write_item-clause-err : goal.returns-in_err-write_item-clause-err
returns-in_err-write_item-clause-err g c =
    let some : c.args.run.count ≢ 0 = omega arith in
    let f = λ (tags : List ℕ) (rows : List (List State)) (before : IsRunBefore c.args.run.count c.args.run.tag tags).
    let left : List TagRun = runs_of (row_left 0 tags rows) in
    broke_as
    (ap (items_left (held c.args.page.now) (column_of c.args.page.now)) (row_left_run c.args.ends c.args.run.count c.args.run.tag tags rows some c.requires.other before
    ∙ ap (λ t. end_items c.args.ends ++ (record { count = c.args.run.count; tag = t } ∷ left)) (sym c.byte_of.ensures)))
    (wrote_broke (c.in_ok-write_ends.ensures.ok (record { count = c.args.run.count; tag = c.byte_of.result } ∷ left))
    (c.in_err-write_item.ensures.err (map run_text left ++ codes "!" ∷ []))) in
    on_err _ f

pub returns-clause-ok : goal.returns-clause-ok
returns-clause-ok g c tags rows before =
    let some : c.args.run.count ≢ 0 = omega arith in
    let left : List TagRun = runs_of (row_left 0 tags rows) in
    wrote_as
    (ap (items_left (held c.args.page.now) (column_of c.args.page.now)) (row_left_run c.args.ends c.args.run.count c.args.run.tag tags rows some c.requires.other before
    ∙ ap (λ t. end_items c.args.ends ++ (record { count = c.args.run.count; tag = t } ∷ left)) (sym c.byte_of.ensures)))
    (wrote_then (c.in_ok-write_ends.ensures.ok (record { count = c.args.run.count; tag = c.byte_of.result } ∷ left))
    (c.in_ok-write_item.ensures.ok (map run_text left ++ codes "!" ∷ [])))

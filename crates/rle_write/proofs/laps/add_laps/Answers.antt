use Rattle.std.proofs.Common.{◌≡◌, ◌-◌, ◌∙◌, ℕ, List, [], ◌++◌, replicate, sym, subst, ap, arith}
use Rattle.std.proofs.lemmas.Result.{IfOk-weaker, on_err_weaker}
use Rattle.ww_rule.specs.declared.pattern.State.{State}
use Rattle.rle_write.specs.Laps.{IsLap}
use Rattle.rle_write.specs.Left.{row_left, text_left}
use Rattle.rle_write.specs.Runs.{repeated, spelled}
use Rattle.ww_base.specs.Pages.{held, column_of}
use Rattle.rle_write.proofs.CopiedTags.{repeated_parts}
use Rattle.rle_write.proofs.LapTexts.{lap_next, lap_found}
use Rattle.lists.proofs.Results.{on_err}
use Rattle.ww_base.proofs.Steps.{wrote_then, wrote_broke, wrote_to}
use Rattle.rle_write.proofs.laps.add_laps.Goals as goal

pub laps-preserved : goal.laps-preserved
laps-preserved g c =
    let kept = c.args.kept in
    let tags : List ℕ = spelled c.args.runs.now in
    let column : ℕ = column_of c.args.page.now in
    let copies : ℕ = c.unwrap_or-copies.result in
    let bytes : List ℕ = c.bytes.result.now in
    let lap : IsLap column kept c.args.runs.now copies bytes =
    subst (IsLap column kept c.args.runs.now copies) (sym c.bytes.ensures)
    (lap_found c.column.result column kept c.args.runs.now _ c.find_lap.result copies c.column.ensures.count c.find_lap.ensures c.unwrap_or-copies.ensures
    (omega (arith, c.laps-test.true))) in
    let left : ℕ = c.laps.left in
    let row = λ (n : ℕ) (more : List ℕ) (rows : List (List State)). row_left kept.due (replicate kept.run.count kept.run.tag ++ (repeated n tags ++ more)) rows in
    let here : column_of c.put.new.self ≡ column = c.put.ensures.column ∙ c.laps.invariant.column in
    record {
      within = omega (arith, c.laps.invariant.within);
      column = here;
      wrote = λ more rows.
          wrote_to (ap (λ k. text_left (held c.put.new.self) k (row (left - copies) more rows)) (sym here))
          (wrote_then
          (wrote_to
          (ap (λ k. text_left (held c.laps.page) k (row left more rows)) c.laps.invariant.column
          ∙ lap_next (held c.laps.page) column kept c.args.runs.now copies bytes lap left c.if-copies-left.true more rows)
          (c.laps.invariant.wrote more rows))
          (c.in_ok-put.ensures.ok (text_left [] column (row (left - copies) more rows))));
    }

pub returns-in_err-put-clause-err : goal.returns-in_err-put-clause-err
returns-in_err-put-clause-err g c =
    let kept = c.args.kept in
    let tags : List ℕ = spelled c.args.runs.now in
    let column : ℕ = column_of c.args.page.now in
    let copies : ℕ = c.unwrap_or-copies.result in
    let bytes : List ℕ = c.bytes.result.now in
    let lap : IsLap column kept c.args.runs.now copies bytes =
    subst (IsLap column kept c.args.runs.now copies) (sym c.bytes.ensures)
    (lap_found c.column.result column kept c.args.runs.now _ c.find_lap.result copies c.column.ensures.count c.find_lap.ensures c.unwrap_or-copies.ensures
    (omega (arith, c.laps-test.true))) in
    let left : ℕ = c.laps.left in
    let row = λ (n : ℕ) (more : List ℕ) (rows : List (List State)). row_left kept.due (replicate kept.run.count kept.run.tag ++ (repeated n tags ++ more)) rows in
    let f = λ (more : List ℕ) (rows : List (List State)).
    wrote_broke
    (wrote_to
    (ap (λ k. text_left (held c.laps.page) k (row left more rows)) c.laps.invariant.column
    ∙ lap_next (held c.laps.page) column kept c.args.runs.now copies bytes lap left c.if-copies-left.true more rows)
    (c.laps.invariant.wrote more rows))
    (c.in_err-put.ensures.err (text_left [] column (row (left - copies) more rows))) in
    on_err _ f

pub add_copies-requires-clause-short : goal.add_copies-requires-clause-short
add_copies-requires-clause-short g c =
    omega (arith, c.requires.short, repeated_parts c.laps.left c.args.count (spelled c.args.runs.now) c.laps.invariant.within)

pub returns-clause-short : goal.returns-clause-short
returns-clause-short g c =
    let parts = repeated_parts c.laps.left c.args.count (spelled c.args.runs.now) c.laps.invariant.within in
    IfOk-weaker c.add_copies.result _ _ (λ k short. omega (arith, short, parts)) c.add_copies.ensures.short

pub returns-clause-ok : goal.returns-clause-ok
returns-clause-ok g c =
    IfOk-weaker c.add_copies.result _ _ (λ k wrote more rows. wrote_then (c.laps.invariant.wrote more rows) (wrote more rows)) c.add_copies.ensures.ok

pub returns-clause-err : goal.returns-clause-err
returns-clause-err g c =
    on_err_weaker c.add_copies.result (λ broke more rows. wrote_broke (c.laps.invariant.wrote more rows) (broke more rows)) c.add_copies.ensures.err

pub find_lap-requires-clause-short : goal.find_lap-requires-clause-short
find_lap-requires-clause-short g c =
    omega (arith, c.requires.short, repeated_parts c.min-most.result c.args.count (spelled c.args.runs.now) (omega (arith, c.min-most.ensures)))

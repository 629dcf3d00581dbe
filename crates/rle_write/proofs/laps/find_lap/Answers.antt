use Rattle.std.proofs.Common.{◌≡◌, ◌∙◌, ℕ, List, [], ◌++◌, replicate, refl, sym, ap₂, arith}
use Rattle.rle_write.specs.declared.rows.Kept.{Kept}
use Rattle.rle_write.specs.LapBytes.{bytes_of}
use Rattle.rle_write.specs.Left.{row_left, text_left}
use Rattle.rle_write.specs.Runs.{spelled}
use Rattle.ww_base.specs.Pages.{column_of}
use Rattle.rle_write.proofs.CopiedTags.{repeated_long, repeated_last}
use Rattle.rle_write.proofs.Lefts.{left_by}
use Rattle.rle_write.proofs.LapTexts.{taken_of}
use Rattle.ww_base.proofs.Steps.{wrote_then, wrote_as}
use Rattle.rle_write.proofs.laps.find_lap.Goals as goal

pub loop-before-preserved : goal.loop-before-preserved
loop-before-preserved c =
    let tags : List ℕ = spelled c.args.runs.now in
    let i : ℕ = c.loop-before.before in
    let kept = c.args.kept in
    record {
      cell = c.in-Ok.ensures.cell;
      short = omega (arith, c.in-Ok.ensures.short, c.loop-before.invariant.short, repeated_long c.args.most i tags c.loop-before-test.true);
      wrote = λ more rows.
          wrote_as (left_by [] c.args.column kept.due kept.run.count kept.run.tag rows (sym (repeated_last i tags more)))
          (wrote_then (c.loop-before.invariant.wrote (tags ++ more) rows) (c.in-Ok.ensures.ok more rows));
    }

pub returns-then-is_same : goal.returns-then-is_same
returns-then-is_same c =
    let tags : List ℕ = spelled c.args.runs.now in
    let i : ℕ = c.loop-before.before in
    let kept = c.args.kept in
    let next = c.in-Ok.next in
    let here : column_of c.add_runs.new.page ≡ c.args.column = sym c.column.ensures.count ∙ c.if-column.true in
    let same : next ≡ kept = c.if-is_same.ensures refl in (
      omega arith,
      λ more rows.
          let rest : List ℕ = text_left [] (column_of c.add_runs.new.page) (row_left next.due (replicate next.run.count next.run.tag ++ more) rows) in
          left_by [] c.args.column kept.due kept.run.count kept.run.tag rows (sym (repeated_last i tags more))
          ∙ taken_of c.requires.empty
          (wrote_then (wrote_then (c.loop-before.invariant.wrote (tags ++ more) rows) (c.in-Ok.ensures.ok more rows)) (c.in-Ok-flush.ensures.ok rest))
          ∙ ap₂ (λ (k : ℕ) (r : Kept). bytes_of c.flush.new.sink ++ text_left [] k (row_left r.due (replicate r.run.count r.run.tag ++ more) rows)) here same,
    )

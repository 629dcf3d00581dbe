use Rattle.std.proofs.Common.{◌≡◌, ◌<◌, ◌+◌, ◌-◌, ◌*◌, ◌/◌, ◌%◌, ℕ, List, map, drop, length, ap, arith}
use Rattle.ww_rule.specs.declared.pattern.State.{State}
use Rattle.grid_assembly.specs.PlanDrawing.{start_row}
use Rattle.grid_assembly.proofs.Near.{size_near}
use Rattle.pattern_writing.specs.Writer.{tag_of}
use Rattle.ww_base.specs.Pages.{held, column_of}
use Rattle.rle_write.specs.declared.blocks.Stretch.{Stretch}
use Rattle.rle_write.specs.Blocks.{tags_of_blocks}
use Rattle.rle_write.specs.Runs.{repeated}
use Rattle.rle_write.proofs.Lefts.{left_by}
use Rattle.rle_write.proofs.FigureCells.{figures_next, figure_inside, figure_some, cells_long}
use Rattle.lists.proofs.Results.{on_err}
use Rattle.ww_base.proofs.Steps.{wrote_then, wrote_broke, wrote_to}
use Rattle.rle_write.proofs.stretches.write_stretches.Goals as goal

pub figure_of-figure-requires : goal.figure_of-figure-requires
figure_of-figure-requires g c = (c.requires.kept c.stretches.column (omega arith) c.stretches-test.true).repeats.some

pub add_figure-requires-clause-cell : goal.add_figure-requires-clause-cell
add_figure-requires-clause-cell g c = c.stretches.invariant.cell

pub returns-clause-cell : goal.returns-clause-cell
returns-clause-cell g c = c.stretches.invariant.cell

pub returns-clause-fewer : goal.returns-clause-fewer
returns-clause-fewer g c = c.stretches.invariant.fewer

pub returns-clause-short : goal.returns-clause-short
returns-clause-short g c = omega (arith, c.stretches.invariant.short, c.stretches.invariant.within)

pub add_figure-requires-clause-inside : goal.add_figure-requires-clause-inside
add_figure-requires-clause-inside g c =
    let plan = c.args.plan.now in
    let lane : ℕ = c.args.y / 16 in
    let k : ℕ = c.stretches.column in
    let size : ℕ = length c.args.blocks.now in
    let figure : ℕ = c.figure_of-figure.result.0 in
    let often : ℕ = c.figure_of-figure.result.1 in
    let is = c.figure_of-figure.ensures plan lane size k (c.requires.kept k (omega arith) c.stretches-test.true) in
    figure_inside plan lane size k figure often is

pub add_figure-requires-clause-few : goal.add_figure-requires-clause-few
add_figure-requires-clause-few g c =
    let plan = c.args.plan.now in
    let lane : ℕ = c.args.y / 16 in
    let k : ℕ = c.stretches.column in
    let size : ℕ = length c.args.blocks.now in
    let figure : ℕ = c.figure_of-figure.result.0 in
    let often : ℕ = c.figure_of-figure.result.1 in
    let is = c.figure_of-figure.ensures plan lane size k (c.requires.kept k (omega arith) c.stretches-test.true) in
    is.few

pub add_figure-requires-clause-some : goal.add_figure-requires-clause-some
add_figure-requires-clause-some g c =
    let plan = c.args.plan.now in
    let lane : ℕ = c.args.y / 16 in
    let k : ℕ = c.stretches.column in
    let size : ℕ = length c.args.blocks.now in
    let figure : ℕ = c.figure_of-figure.result.0 in
    let often : ℕ = c.figure_of-figure.result.1 in
    let is = c.figure_of-figure.ensures plan lane size k (c.requires.kept k (omega arith) c.stretches-test.true) in
    is.once

pub add_figure-requires-clause-short : goal.add_figure-requires-clause-short
add_figure-requires-clause-short g c =
    let plan = c.args.plan.now in
    let y : ℕ = c.args.y in
    let k : ℕ = c.stretches.column in
    let blocks : List Stretch = c.args.blocks.now in
    let figure : ℕ = c.figure_of-figure.result.0 in
    let often : ℕ = c.figure_of-figure.result.1 in
    let is = c.figure_of-figure.ensures plan (y / 16) (length blocks) k (c.requires.kept k (omega arith) c.stretches-test.true) in
    let rest : List ℕ = map tag_of (drop (32 * (k + figure * often)) (start_row plan y)) in
    let next =
    figures_next plan y figure k often blocks (c.requires.dark (omega (arith, c.stretches-test.true))) c.requires.kept c.requires.inside is in
    let kept = c.stretches.kept in
    let copies : List ℕ = repeated often (tags_of_blocks blocks k figure (y % 16)) in
    let long =
    cells_long plan y (32 * k) (32 * (k + figure * often)) copies (omega arith) (omega (arith, is.within, c.requires.inside)) next in
    omega (arith, c.stretches.invariant.short, long, is.within, c.requires.inside, (size_near c.args.plan.now c.requires.admissible).0)

pub overflow_mul-column : goal.overflow_mul-column
overflow_mul-column g c =
    let plan = c.args.plan.now in
    let lane : ℕ = c.args.y / 16 in
    let k : ℕ = c.stretches.column in
    let size : ℕ = length c.args.blocks.now in
    let figure : ℕ = c.figure_of-figure.result.0 in
    let often : ℕ = c.figure_of-figure.result.1 in
    let is = c.figure_of-figure.ensures plan lane size k (c.requires.kept k (omega arith) c.stretches-test.true) in
    omega (arith, is.within, c.requires.inside, (size_near c.args.plan.now c.requires.admissible).0)

pub overflow_add-column : goal.overflow_add-column
overflow_add-column g c =
    let plan = c.args.plan.now in
    let lane : ℕ = c.args.y / 16 in
    let k : ℕ = c.stretches.column in
    let size : ℕ = length c.args.blocks.now in
    let figure : ℕ = c.figure_of-figure.result.0 in
    let often : ℕ = c.figure_of-figure.result.1 in
    let is = c.figure_of-figure.ensures plan lane size k (c.requires.kept k (omega arith) c.stretches-test.true) in
    omega (arith, is.within, c.requires.inside, (size_near c.args.plan.now c.requires.admissible).0)

pub stretches-smaller : goal.stretches-smaller
stretches-smaller g c =
    let plan = c.args.plan.now in
    let lane : ℕ = c.args.y / 16 in
    let k : ℕ = c.stretches.column in
    let size : ℕ = length c.args.blocks.now in
    let figure : ℕ = c.figure_of-figure.result.0 in
    let often : ℕ = c.figure_of-figure.result.1 in
    let is = c.figure_of-figure.ensures plan lane size k (c.requires.kept k (omega arith) c.stretches-test.true) in
    let less : size - (k + figure * often) < size - k =
    omega (arith, figure_some plan lane size k figure often is, c.stretches-test.true) in less

pub stretches-preserved : goal.stretches-preserved
stretches-preserved g c =
    let plan = c.args.plan.now in
    let y : ℕ = c.args.y in
    let k : ℕ = c.stretches.column in
    let blocks : List Stretch = c.args.blocks.now in
    let figure : ℕ = c.figure_of-figure.result.0 in
    let often : ℕ = c.figure_of-figure.result.1 in
    let is = c.figure_of-figure.ensures plan (y / 16) (length blocks) k (c.requires.kept k (omega arith) c.stretches-test.true) in
    let rest : List ℕ = map tag_of (drop (32 * (k + figure * often)) (start_row plan y)) in
    let next =
    figures_next plan y figure k often blocks (c.requires.dark (omega (arith, c.stretches-test.true))) c.requires.kept c.requires.inside is in
    let kept = c.stretches.kept in
    let copies : List ℕ = repeated often (tags_of_blocks blocks k figure (y % 16)) in
    let long =
    cells_long plan y (32 * k) (32 * (k + figure * often)) copies (omega arith) (omega (arith, is.within, c.requires.inside)) next in
    record {
      within = omega (arith, is.within);
      fewer = omega (arith, c.in_ok-kept.ensures.fewer, c.stretches.invariant.fewer);
      short = omega (arith, c.in_ok-kept.ensures.short, c.stretches.invariant.short, long);
      cell = c.in_ok-kept.ensures.cell;
      wrote = λ rows.
          wrote_then
          (wrote_to (left_by (held c.stretches.page) (column_of c.stretches.page) kept.due kept.run.count kept.run.tag rows next) (c.stretches.invariant.wrote rows))
          (c.in_ok-kept.ensures.ok rest rows);
    }

pub returns-in_err-kept-clause-err : goal.returns-in_err-kept-clause-err
returns-in_err-kept-clause-err g c =
    let plan = c.args.plan.now in
    let y : ℕ = c.args.y in
    let k : ℕ = c.stretches.column in
    let blocks : List Stretch = c.args.blocks.now in
    let figure : ℕ = c.figure_of-figure.result.0 in
    let often : ℕ = c.figure_of-figure.result.1 in
    let is = c.figure_of-figure.ensures plan (y / 16) (length blocks) k (c.requires.kept k (omega arith) c.stretches-test.true) in
    let rest : List ℕ = map tag_of (drop (32 * (k + figure * often)) (start_row plan y)) in
    let next =
    figures_next plan y figure k often blocks (c.requires.dark (omega (arith, c.stretches-test.true))) c.requires.kept c.requires.inside is in
    let kept = c.stretches.kept in
    let f = λ (rows : List (List State)).
    wrote_broke
    (wrote_to (left_by (held c.stretches.page) (column_of c.stretches.page) kept.due kept.run.count kept.run.tag rows next) (c.stretches.invariant.wrote rows))
    (c.in_err-kept.ensures.err rest rows) in
    on_err _ f

pub returns-clause-ok : goal.returns-clause-ok
returns-clause-ok g c rows =
    let end : c.stretches.column ≡ length c.args.blocks.now = omega (arith, c.stretches-test.false, c.stretches.invariant.within) in
    let kept = c.stretches.kept in
    wrote_to
    (left_by (held c.stretches.page) (column_of c.stretches.page) kept.due kept.run.count kept.run.tag rows
    (ap (λ k. map tag_of (drop (32 * k) (start_row c.args.plan.now c.args.y))) end))
    (c.stretches.invariant.wrote rows)

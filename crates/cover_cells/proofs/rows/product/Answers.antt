use Rattle.std.proofs.Common.{◌≡◌, ◌<◌, ◌+◌, ◌∙◌, sym, ap, subst, min, length, get_or, arith}
use Rattle.cell_core.specs.declared.cells.Src.TheVariants.{Input}
use Rattle.cover_cells.specs.Covers.{start_of}
use Rattle.cell_sharing.proofs.Growing.{all_there_after}
use Rattle.cover_cells.proofs.Products.{IsFirst, ComesTo, source_there, comes_from_start, comes_to_row, column_added, column_skipped, start_is}
use Rattle.cover_cells.proofs.rows.product.Goals as goal
use Rattle.cover_cells.proofs.rows.product.Goals.{then-i-first+in_ok-product, else-i-first}

pub with_column-requires-clause-first : goal.with_column-requires-clause-first
with_column-requires-clause-first c = c.loop-i.invariant.there

pub with_column-requires-clause-second : goal.with_column-requires-clause-second
with_column-requires-clause-second c =
    let all = all_there_after c.args.list.now c.loop-i.list _ _ c.loop-i.invariant.grows c.args.sources.now c.requires in
    let within : c.loop-i.i < length c.args.sources.now = omega (arith, c.loop-i-test.true, c.min-width.ensures) in
    source_there _ _ _ c.args.sources.now c.loop-i.i _ within all

pub loop-i-init : goal.loop-i-init
loop-i-init c =
    let first : IsFirst c.args.row.now c.first_positive-first.result =
    record { within = c.first_positive-first.ensures.within; before = c.first_positive-first.ensures.before; found = c.first_positive-first.ensures.found } in
    let starts : c.start-start.result ≡ start_of c.args.sources.now c.first_positive-first.result (min (length c.args.row.now) (length c.args.sources.now)) =
    c.start-start.ensures ∙ ap (start_of c.args.sources.now c.first_positive-first.result) c.min-width.ensures in
    subst (λ s. ComesTo c.args.list.now c.args.list.now c.args.sources.now c.args.row.now s 0 s) (sym starts) (comes_from_start c.args.list.now c.args.sources.now c.args.row.now c.first_positive-first.result first c.requires)

pub loop-i-preserved : goal.loop-i-preserved
loop-i-preserved c =
    let in_row : c.loop-i.i < length c.args.row.now = omega (arith, c.loop-i-test.true, c.min-width.ensures) in
    let in_sources : c.loop-i.i < length c.args.sources.now = omega (arith, c.loop-i-test.true, c.min-width.ensures) in
    let positive : c.loop-i.i ≡ c.first_positive-first.result → get_or c.args.row.now c.loop-i.i 0 ≡ 49 =
    λ is. ap (λ k. get_or c.args.row.now k 0) is ∙ c.first_positive-first.ensures.found (omega (arith, is, in_row)) in
    let starts : c.loop-i.i ≡ c.first_positive-first.result → c.start-start.result ≡ get_or c.args.sources.now c.loop-i.i (Input 0) =
    λ is. c.start-start.ensures ∙ start_is c.args.sources.now c.first_positive-first.result c.min-width.result (omega (arith, is, c.loop-i-test.true)) (omega (arith, is, in_sources)) ∙ ap (λ k. get_or c.args.sources.now k (Input 0)) (sym is) in
    elim c.if-i-first.branch [
      | then-i-first+in_ok-product w ↦
          subst (λ l. ComesTo c.args.list.now l c.args.sources.now c.args.row.now c.start-start.result (c.loop-i.i + 1) c.if-i-first.product) (sym w.list-is)
          (subst (λ p. ComesTo c.args.list.now w.with_column.new.list c.args.sources.now c.args.row.now c.start-start.result (c.loop-i.i + 1) p) (sym w.product-is)
          (column_added c.args.list.now c.loop-i.list w.with_column.new.list c.args.sources.now c.args.row.now c.start-start.result c.loop-i.product w.in_ok-product.product c.loop-i.i in_row in_sources c.requires c.loop-i.invariant w.in_ok-product.ensures))
      | else-i-first w ↦
          subst (λ l. ComesTo c.args.list.now l c.args.sources.now c.args.row.now c.start-start.result (c.loop-i.i + 1) c.if-i-first.product) (sym w.list-is)
          (subst (λ p. ComesTo c.args.list.now c.loop-i.list c.args.sources.now c.args.row.now c.start-start.result (c.loop-i.i + 1) p) (sym w.product-is)
          (column_skipped c.args.list.now c.loop-i.list c.args.sources.now c.args.row.now c.start-start.result c.loop-i.product c.loop-i.i in_row in_sources (positive w.if-i-first.false) (starts w.if-i-first.false) c.loop-i.invariant))
    ]

pub returns : goal.returns
returns c =
    let first : IsFirst c.args.row.now c.first_positive-first.result =
    record { within = c.first_positive-first.ensures.within; before = c.first_positive-first.ensures.before; found = c.first_positive-first.ensures.found } in
    let starts : c.start-start.result ≡ start_of c.args.sources.now c.first_positive-first.result (min (length c.args.row.now) (length c.args.sources.now)) =
    c.start-start.ensures ∙ ap (start_of c.args.sources.now c.first_positive-first.result) c.min-width.ensures in
    let end : c.loop-i.i ≡ min (length c.args.row.now) (length c.args.sources.now) = omega (arith, c.loop-i-test.false, c.min-width.ensures, c.loop-i.auto.i-end) in
    comes_to_row c.args.list.now c.loop-i.list c.args.sources.now c.args.row.now c.first_positive-first.result c.loop-i.product first
    (subst (λ s. ComesTo c.args.list.now c.loop-i.list c.args.sources.now c.args.row.now s (min (length c.args.row.now) (length c.args.sources.now)) c.loop-i.product) starts
    (subst (λ n. ComesTo c.args.list.now c.loop-i.list c.args.sources.now c.args.row.now c.start-start.result n c.loop-i.product) end c.loop-i.invariant))

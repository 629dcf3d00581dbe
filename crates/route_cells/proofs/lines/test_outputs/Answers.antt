use Rattle.std.proofs.Common.{◌∙◌, ap, subst, subst₂, below_more, arith}
use Rattle.std.proofs.lemmas.Option.{get_or_from_slice_get, slice_get_within}
use Rattle.pattern_reading.specs.declared.ports.PortLine.{PortLine}
use Rattle.routed_circuits.specs.Runs.{src_at}
use Rattle.route_tables.specs.Runs.{ShowsAt}
use Rattle.route_cells.proofs.lines.test_outputs.Goals as goal

pub loop-o-preserved : goal.loop-o-preserved
loop-o-preserved c =
    below_more _ _ c.loop-o.invariant
    (λ line is.
    subst₂ (λ ports source. ShowsAt c.args.t.now ports c.loop-o.o line.x line.y c.args.latency source)
    c.as_slice-in-loop-o.ensures (c.src_at-source.ensures ∙ ap (λ sources. src_at sources c.loop-o.o) c.as_slice.ensures)
    (subst (λ (line : PortLine). ShowsAt c.args.t.now c.as_slice-in-loop-o.result.now c.loop-o.o line.x line.y c.args.latency c.src_at-source.result)
    (c.index-lines-o.is ∙ get_or_from_slice_get c.args.lines.now c.loop-o.o line _ is) (c.shows_at.ensures c.if-not-shows_at.false)))

pub returns : goal.returns
returns c = λ o line is. let low = slice_get_within c.args.lines.now o line is in c.loop-o.invariant o (omega (arith, low, c.loop-o-test.false)) line is

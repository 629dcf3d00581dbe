use Rattle.std.proofs.Common.{◌∙◌, ap, subst, subst₂, below_more, arith}
use Rattle.std.proofs.lemmas.Option.{get_or_from_slice_get, slice_get_within}
use Rattle.pattern_reading.specs.declared.ports.NetLine.{NetLine}
use Rattle.routed_circuits.specs.Runs.{src_at}
use Rattle.route_tables.specs.Runs.{ShowsAt}
use Rattle.route_cells.proofs.lines.test_nets.Goals as goal

pub loop-n-preserved : goal.loop-n-preserved
loop-n-preserved c =
    below_more _ _ c.loop-n.invariant
    (λ line is.
    subst₂ (λ ports source. ShowsAt c.args.t.now ports c.loop-n.n line.x line.y line.offset source)
    c.as_slice-in-loop-n.ensures (c.src_at-source.ensures ∙ ap (λ sources. src_at sources c.loop-n.n) c.as_slice.ensures)
    (subst (λ (line : NetLine). ShowsAt c.args.t.now c.as_slice-in-loop-n.result.now c.loop-n.n line.x line.y line.offset c.src_at-source.result)
    (c.index-lines-n.is ∙ get_or_from_slice_get c.args.lines.now c.loop-n.n line _ is) (c.shows_at.ensures c.if-not-shows_at.false)))

pub returns : goal.returns
returns c = λ n line is. let low = slice_get_within c.args.lines.now n line is in c.loop-n.invariant n (omega (arith, low, c.loop-n-test.false)) line is

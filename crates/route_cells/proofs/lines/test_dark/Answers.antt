use Rattle.std.proofs.Common.{◌∙◌, sym, ap, subst, below_more, arith}
use Rattle.std.proofs.lemmas.Option.{same_Some, slice_get_within}
use Rattle.route_tables.specs.Tables.{point_at}
use Rattle.route_tables.specs.Runs.{IsDark}
use Rattle.route_cells.proofs.lines.test_dark.Goals as goal

pub loop-d-init : goal.loop-d-init
loop-d-init c = λ k low at late. absurd (omega (arith, low, late))

pub loop-d-preserved : goal.loop-d-preserved
loop-d-preserved c =
    let t = c.args.t.now in
    below_more _ _ c.loop-d.invariant
    (λ at late there.
    subst (IsDark t) (same_Some _ _ (sym c.get-at.ensures ∙ there))
    (ap (λ port. (point_at t port).1) (sym c.input_port.ensures) ∙ sym c.source.ensures ∙ c.is_same_src.ensures c.if-not-is_same_src.false))

pub returns : goal.returns
returns c = λ d at late there.
    let low = slice_get_within c.args.t.now.driven d at there in c.loop-d.invariant d (omega (arith, low)) at late there

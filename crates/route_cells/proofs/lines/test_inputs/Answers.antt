use Rattle.std.proofs.Common.{◌∙◌, subst, below_more, arith}
use Rattle.std.proofs.lemmas.Option.{get_or_from_slice_get, slice_get_within}
use Rattle.route_tables.specs.Runs.{IsInput}
use Rattle.route_cells.proofs.lines.test_inputs.Goals as goal

pub loop-i-preserved : goal.loop-i-preserved
loop-i-preserved c =
    below_more _ _ c.loop-i.invariant
    (λ line is. subst (IsInput c.args.t.now c.args.states.now c.loop-i.i) (c.index-lines-i.is ∙ get_or_from_slice_get c.args.lines.now c.loop-i.i line _ is) (c.is_input.ensures c.if-not-is_input.false))

pub returns : goal.returns
returns c = λ i line is. let low = slice_get_within c.args.lines.now i line is in c.loop-i.invariant i (omega (arith, low, c.loop-i-test.false)) line is

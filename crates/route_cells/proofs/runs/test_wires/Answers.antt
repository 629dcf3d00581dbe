use Rattle.std.proofs.Common.{below_more, arith}
use Rattle.std.proofs.lemmas.Result.{err_from_is_err_and}
use Rattle.route_cells.proofs.runs.test_wires.Goals as goal

pub loop-w-init : goal.loop-w-init
loop-w-init c = λ v low. absurd (omega (arith, low))

pub loop-w-preserved : goal.loop-w-preserved
loop-w-preserved c = below_more _ _ c.loop-w.invariant c.in_ok-test_wire.ensures

pub returns-in_err-test_wire : goal.returns-in_err-test_wire
returns-in_err-test_wire c = rw ((err_from_is_err_and c.from_residual.result c.from_residual.ensures.1).1) tt

pub returns : goal.returns
returns c = λ w low. c.loop-w.invariant w (omega (arith, low))

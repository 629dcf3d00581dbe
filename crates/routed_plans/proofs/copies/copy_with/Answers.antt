use Rattle.std.proofs.lemmas.Result.{err_from_is_err_and}
use Rattle.routed_plans.proofs.copies.copy_with.Goals as goal

pub returns-in_err-cells : goal.returns-in_err-cells
returns-in_err-cells c = rw ((err_from_is_err_and c.from_residual.result c.from_residual.ensures.1).1) tt

pub returns-in_err-latches : goal.returns-in_err-latches
returns-in_err-latches c = rw ((err_from_is_err_and c.from_residual-in_err-latches.result c.from_residual-in_err-latches.ensures.1).1) tt

pub returns-in_err-starts : goal.returns-in_err-starts
returns-in_err-starts c = rw ((err_from_is_err_and c.from_residual-in_err-starts.result c.from_residual-in_err-starts.ensures.1).1) tt

use Rattle.std.proofs.lemmas.Result.{err_from_is_err_and}
use Rattle.netlist_plans.proofs.planning.lists_of_both.Goals as goal

pub returns-in_err-low_lists : goal.returns-in_err-low_lists
returns-in_err-low_lists c =
    let p = (err_from_is_err_and c.from_residual.result c.from_residual.ensures.1).1 in
    record { some = rw p tt; computes = rw p tt; spares = rw p tt }

use Rattle.std.proofs.lemmas.Result.{err_from_is_err_and}
use Rattle.routed_plans.proofs.wanted.wanted_list.Goals as goal

pub returns-in_err-outs : goal.returns-in_err-outs
returns-in_err-outs c = rw ((err_from_is_err_and c.from_residual.result c.from_residual.ensures.1).1) tt

pub returns-in_err-nets : goal.returns-in_err-nets
returns-in_err-nets c = rw ((err_from_is_err_and c.from_residual-in_err-nets.result c.from_residual-in_err-nets.ensures.1).1) tt

use Rattle.std.proofs.lemmas.Result.{err_from_is_err_and}
use Rattle.aiger_meaning.proofs.flat.flat_of.Goals as goal

pub returns-in_err-ins : goal.returns-in_err-ins
returns-in_err-ins c = rw ((err_from_is_err_and c.from_residual.result c.from_residual.ensures.1).1) tt

pub returns-in_err-outs : goal.returns-in_err-outs
returns-in_err-outs c = rw ((err_from_is_err_and c.from_residual-in_err-outs.result c.from_residual-in_err-outs.ensures.1).1) tt

pub returns-in_err-latches : goal.returns-in_err-latches
returns-in_err-latches c = rw ((err_from_is_err_and c.from_residual-in_err-latches.result c.from_residual-in_err-latches.ensures.1).1) tt

pub returns-in_err-nets : goal.returns-in_err-nets
returns-in_err-nets c = rw ((err_from_is_err_and c.from_residual-in_err-nets.result c.from_residual-in_err-nets.ensures.1).1) tt

pub returns-in_err-nodes : goal.returns-in_err-nodes
returns-in_err-nodes c = rw ((err_from_is_err_and c.from_residual-in_err-nodes.result c.from_residual-in_err-nodes.ensures.1).1) tt

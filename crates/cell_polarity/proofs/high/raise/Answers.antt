use Rattle.std.proofs.lemmas.Result.{err_from_is_err_and}
use Rattle.cell_polarity.proofs.high.raise.Goals as goal

pub share-requires : goal.share-requires
share-requires c = c.requires.own c.if-known.true

pub returns-in_err-share : goal.returns-in_err-share
returns-in_err-share c = rw ((err_from_is_err_and c.from_residual.result c.from_residual.ensures.1).1) tt

pub returns-in_err-settle : goal.returns-in_err-settle
returns-in_err-settle c = rw ((err_from_is_err_and c.from_residual-in_err-settle.result c.from_residual-in_err-settle.ensures.1).1) tt

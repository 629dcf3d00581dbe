use Rattle.std.proofs.lemmas.Result.{err_from_is_err_and}
use Rattle.cover_cells.proofs.rows.map_rows.Goals as goal

pub sum-requires : goal.sum-requires
sum-requires c = c.requires

pub returns-in_err-sum : goal.returns-in_err-sum
returns-in_err-sum c = rw ((err_from_is_err_and c.from_residual.result c.from_residual.ensures.1).1) tt

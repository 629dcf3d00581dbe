use Rattle.std.proofs.Common.{◌∙◌}
use Rattle.std.proofs.lemmas.Result.{err_from_is_err_and}
use Rattle.cell_polarity.proofs.marks.marks_of.Goals as goal

pub returns-in_err-marks : goal.returns-in_err-marks
returns-in_err-marks c = rw ((err_from_is_err_and c.from_residual.result c.from_residual.ensures.1).1) tt

pub mark_all-requires : goal.mark_all-requires
mark_all-requires c = c.deref_mut.ensures.value ∙ c.in_ok-marks.ensures.items_if_clones_equal (λ y e. e)

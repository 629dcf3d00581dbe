use Rattle.std.proofs.Common.{◌∙◌, subst, List}
use Rattle.std.proofs.lemmas.Result.{IfOk-weaker}
use Rattle.cell_core.specs.declared.cells.Src.{Src}
use Rattle.cell_polarity.specs.Marks.{AreMarked}
use Rattle.cell_polarity.proofs.marks.marks_of_needed.Goals as goal

pub returns : goal.returns
returns c =
    IfOk-weaker c.marks_of.result _ _
    (λ marks are. subst (λ (sources : List Src). AreMarked c.args.flags.now sources marks.items) (c.deref.ensures.value ∙ c.in_ok-needed.ensures) are)
    c.marks_of.ensures

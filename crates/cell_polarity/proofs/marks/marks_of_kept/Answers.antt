use Rattle.std.proofs.Common.{refl, ◌∙◌, subst, List, Bool, length}
use Rattle.std.proofs.lemmas.Result.{IfOk-weaker}
use Rattle.cell_polarity.specs.Marks.{AreMarked}
use Rattle.cell_polarity.proofs.Marking.{all_true}
use Rattle.cell_polarity.proofs.marks.marks_of_kept.Goals as goal

pub returns : goal.returns
returns c =
    let flags = c.args.flags.now in
    let all = c.deref.ensures.value ∙ c.in_ok-all.ensures.items_if_clones_equal (λ y e. e) in
    IfOk-weaker c.marks_of.result _ _
    (λ marks are. subst (λ (fs : List Bool). AreMarked fs c.args.kept.now marks.items) (all_true flags c.deref.result.now (length flags) all refl) are)
    c.marks_of.ensures

use Rattle.std.proofs.Common.{List, subst}
use Rattle.std.specs.Prelude.{IfOk, IfSome}
use Rattle.std.proofs.lemmas.Result.{IfOk-weaker}
use Rattle.cell_core.specs.declared.cells.Src.{Src}
use Rattle.cell_meaning.specs.Same.{Keeps}
use Rattle.cell_rewriting.proofs.Keeping.{added_keeps, then_keeps, some_weaker}
use Rattle.cell_rewriting.proofs.rewriting.replaced.Goals as goal

pub returns : goal.returns
returns c =
    let old = c.args.now.now in
    let grown = c.in_ok-subst.subst in
    IfOk-weaker c.rebuilt-new.result _ _
    (λ o h. some_weaker o _ _ (λ n k. then_keeps old.list grown.list n.list old.kept.items old.kept.items n.kept.items (added_keeps old.list grown.list c.in_ok-subst.ensures.extends old.kept.items) k) h)
    (subst (λ (kept : List Src). IfOk c.rebuilt-new.result (λ o. IfSome o (λ n. Keeps grown.list kept n.list n.kept.items))) c.deref.ensures.value c.rebuilt-new.ensures)

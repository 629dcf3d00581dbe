use Rattle.std.proofs.Common.{List, subst}
use Rattle.cell_core.specs.declared.cells.Src.{Src}
use Rattle.cell_meaning.specs.Same.{IsRewritten}
use Rattle.cell_rewriting.proofs.Keeping.{then_rewritten}
use Rattle.cell_rewriting.proofs.rewriting.wandered.Goals as goal

pub returns-in-Ok : goal.returns-in-Ok
returns-in-Ok c =
    let from = c.args.from.now in
    let was = c.in_ok-now.now in
    let new = c.wander.new.now in
    then_rewritten from.list was.list new.list from.kept.items was.kept.items new.kept.items
    (subst (λ (kept : List Src). IsRewritten from.list kept was.list was.kept.items) c.deref.ensures.value c.in_ok-now.ensures) c.in-Ok.ensures

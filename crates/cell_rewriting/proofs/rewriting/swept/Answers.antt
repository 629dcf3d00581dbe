use Rattle.cell_rewriting.proofs.Keeping.{then_rewritten}
use Rattle.cell_rewriting.proofs.rewriting.swept.Goals as goal

pub returns-in-Ok-Some : goal.returns-in-Ok-Some
returns-in-Ok-Some c =
    let copy = c.in_ok-now.now in
    let new = c.smaller_of.result in
    then_rewritten c.args.list.now copy.list new.list c.args.kept.now copy.kept.items new.kept.items c.in_ok-now.ensures c.smaller_of.ensures

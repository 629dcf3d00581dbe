use Rattle.cell_rewriting.proofs.Keeping.{then_rewritten}
use Rattle.cell_rewriting.proofs.rewriting.reduced.Goals as goal

pub returns-in-Ok : goal.returns-in-Ok
returns-in-Ok c =
    let was = c.in_ok-now.now in
    let new = c.reduce.new.now in
    then_rewritten c.args.list.now was.list new.list c.args.kept.now was.kept.items new.kept.items c.in_ok-now.ensures c.in-Ok.ensures

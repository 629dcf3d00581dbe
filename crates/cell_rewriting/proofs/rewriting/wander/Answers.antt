use Rattle.cell_rewriting.proofs.Keeping.{itself_rewritten, then_rewritten}
use Rattle.cell_rewriting.proofs.rewriting.wander.Goals as goal

pub loop-at-init : goal.loop-at-init
loop-at-init c = itself_rewritten c.args.now.now.list c.args.now.now.kept.items

pub loop-at-preserved : goal.loop-at-preserved
loop-at-preserved c =
    let old = c.args.now.now in
    let was = c.loop-at.now in
    let new = c.turn.new.now in
    then_rewritten old.list was.list new.list old.kept.items was.kept.items new.kept.items c.loop-at.invariant c.in_ok-turn.ensures

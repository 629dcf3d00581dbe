use Rattle.cell_rewriting.proofs.Keeping.{itself_rewritten, then_rewritten}
use Rattle.cell_rewriting.proofs.rewriting.reduce.Goals as goal

pub loop-init : goal.loop-init
loop-init c = itself_rewritten c.args.now.now.list c.args.now.now.kept.items

pub loop-preserved : goal.loop-preserved
loop-preserved c =
    let old = c.args.now.now in
    let was = c.loop.now in
    let new = c.turn.new.now in
    then_rewritten old.list was.list new.list old.kept.items was.kept.items new.kept.items c.loop.invariant c.in_ok-turn.ensures

pub returns-then-not-branch : goal.returns-then-not-branch
returns-then-not-branch c =
    let old = c.args.now.now in
    let was = c.loop.now in
    let new = c.turn.new.now in
    then_rewritten old.list was.list new.list old.kept.items was.kept.items new.kept.items c.loop.invariant c.in_ok-turn.ensures

use Rattle.cell_rewriting.proofs.Substituting.{extends_itself, extends_then}
use Rattle.cell_rewriting.proofs.substitution.Substitution.replace_all.Goals as goal

pub loop-new-init : goal.loop-new-init
loop-new-init c = (c.requires, extends_itself c.args.self.now.list)

pub loop-new-preserved : goal.loop-new-preserved
loop-new-preserved c =
    (c.in_ok-replace.ensures.equal, extends_then c.args.self.now.list c.loop-new.self.list c.replace.new.self.list c.loop-new.invariant.1 c.in_ok-replace.ensures.extends)

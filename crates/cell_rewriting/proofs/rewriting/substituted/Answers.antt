use Rattle.cell_rewriting.proofs.Substituting.{extends_then}
use Rattle.cell_rewriting.proofs.rewriting.substituted.Goals as goal

pub returns-in-Ok-clause-extends : goal.returns-in-Ok-clause-extends
returns-in-Ok-clause-extends c = extends_then c.args.list.now c.in_ok-subst.subst.list c.replace_all.new.self.list c.in_ok-subst.ensures.extends c.in-Ok.ensures.extends

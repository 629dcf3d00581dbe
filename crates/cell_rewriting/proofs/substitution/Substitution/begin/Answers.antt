use Rattle.std.proofs.Common.{rules, ◌≡◌, None, replicate, length}
use Rattle.cell_rewriting.proofs.Keeping.{alike_extends}
use Rattle.cell_rewriting.proofs.Substituting.{none_replaced}
use Rattle.cell_rewriting.proofs.substitution.Substitution.begin.Goals as goal

pub returns-clause-equal : goal.returns-clause-equal
returns-clause-equal c =
    let none : c.in_ok-instead.instead.items ≡ replicate (length c.args.list.now.cells) None = search rules in
    none_replaced _ c.in_ok-instead.instead.items (length c.args.list.now.cells) none

pub returns-clause-extends : goal.returns-clause-extends
returns-clause-extends c = alike_extends c.args.list.now c.in_ok-copied.field-0 c.in_ok-copied.ensures

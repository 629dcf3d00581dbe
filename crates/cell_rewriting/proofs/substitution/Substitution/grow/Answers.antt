use Rattle.std.proofs.lemmas.Result.{on_ok_weaker}
use Rattle.cell_rewriting.specs.Substitution.{Extends}
use Rattle.cell_rewriting.proofs.Substituting.{equal_then}
use Rattle.cell_rewriting.proofs.substitution.Substitution.grow.Goals as goal

pub returns-clause-equal : goal.returns-clause-equal
returns-clause-equal c =
    on_ok_weaker c.add_cells.result
    (λ (e : Extends c.args.self.now.list c.add_cells.new.list). equal_then c.args.self.now.list c.add_cells.new.list c.args.self.now.instead.items e c.requires)
    c.add_cells.ensures

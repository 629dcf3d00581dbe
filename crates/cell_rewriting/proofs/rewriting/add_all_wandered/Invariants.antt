use Rattle.std.specs.Prelude.{All}
use Rattle.cell_rewriting.specs.Lists.{IsRewrittenFrom}
use Rattle.cell_rewriting.proofs.rewriting.add_all_wandered.Given as goal

abbrev pub invariant-loop-start : goal.invariant-loop-start
invariant-loop-start l = All (IsRewrittenFrom l.from) l.lists.items

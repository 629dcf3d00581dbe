use Rattle.std.proofs.Common.{rules, ◌≡◌, sym, subst, List, ◌++◌, [], ◌∷◌, get_or}
use Rattle.std.specs.Prelude.{All}
use Rattle.std.proofs.lemmas.List.Elements.{All-push}
use Rattle.cell_core.specs.declared.list.CellList.{CellList}
use Rattle.cell_meaning.specs.Same.{Rewrites}
use Rattle.cell_rewriting.proofs.Keeping.{then_rewritten, rewrites}
use Rattle.cell_rewriting.proofs.rewriting.rewritten.Goals as goal

pub returns-clause-same : goal.returns-clause-same
returns-clause-same c =
    let list = c.args.list.now in
    let kept = c.args.kept.now in
    let first = c.in_ok-first.first in
    let items : c.push.new.self.items ≡ c.add_all_wandered.new.lists.items ++ (first.list ∷ []) = search rules in
    let others : All (Rewrites list kept) c.add_all_wandered.new.lists.items = λ k d lt.
    (let r = c.in-Ok.ensures k d lt in
    let new = get_or c.add_all_wandered.new.lists.items k d in
    rewrites list new kept r.0 (then_rewritten list first.list new kept first.kept.items r.0 c.in_ok-first.ensures r.1)) in
    subst (λ (l : List CellList). All (Rewrites list kept) l) (sym items)
    (All-push (Rewrites list kept) c.add_all_wandered.new.lists.items first.list others (rewrites list first.list kept first.kept.items c.in_ok-first.ensures))

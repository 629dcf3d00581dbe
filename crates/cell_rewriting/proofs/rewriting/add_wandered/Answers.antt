use Rattle.std.proofs.Common.{rules, ◌≡◌, sym, subst, ◌++◌, [], ◌∷◌}
use Rattle.std.specs.Prelude.{All}
use Rattle.std.proofs.lemmas.List.Elements.{All-push}
use Rattle.cell_rewriting.specs.Lists.{IsRewrittenFrom}
use Rattle.cell_rewriting.proofs.rewriting.add_wandered.Goals as goal

pub returns : goal.returns
returns c =
    let items : c.push.new.self.items ≡ c.args.lists.now.items ++ (c.in_ok-more.more.list ∷ []) = search rules in
    subst (λ l. All (IsRewrittenFrom c.args.from.now) l) (sym items)
    (All-push (IsRewrittenFrom c.args.from.now) c.args.lists.now.items c.in_ok-more.more.list c.requires (c.in_ok-more.more.kept.items, c.in_ok-more.ensures))

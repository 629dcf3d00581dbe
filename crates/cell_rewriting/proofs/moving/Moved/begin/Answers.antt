use Rattle.std.proofs.Common.{rules, ◌≡◌, None, replicate, length}
use Rattle.cell_meaning.proofs.Moves.{none_moved}
use Rattle.cell_rewriting.proofs.moving.Moved.begin.Goals as goal

pub returns : goal.returns
returns c =
    let none : c.in_ok-news.news.items ≡ replicate (length c.args.list.now.cells) None = search rules in
    none_moved c.args.list.now _ c.in_ok-news.news.items (length c.args.list.now.cells) (search rules) none

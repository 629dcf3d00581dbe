use Rattle.std.proofs.Common.{rules, ◌≡◌, ◌<◌, Some, length}
use Rattle.cell_meaning.specs.Moved.{new_source}
use Rattle.cell_rewriting.proofs.Substituting.{replaced_moved}
use Rattle.cell_rewriting.proofs.moving.Moved.follow.Goals as goal

pub returns-in-Some-get_mut : goal.returns-in-Some-get_mut
returns-in-Some-get_mut c =
    let goes : new_source c.args.self.now.news.items c.args.by ≡ Some c.in-Some.new = search rules in
    let inside : c.args.number < length c.args.self.now.news.items = search rules in
    replaced_moved c.args.subst.now.list c.args.self.now.cells.items c.args.self.now.news.items c.requires.are c.args.number c.args.by c.in-Some.new
    (c.requires.equal.there c.args.number c.args.by c.requires.by) (c.requires.equal.bit c.args.number c.args.by c.requires.by) goes inside

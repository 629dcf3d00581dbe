use Rattle.std.proofs.Common.{rules, ◌≡◌, sym, subst, ◌<◌, length, Some, ◌++◌, [], ◌∷◌, slice_set, slice_get}
use Rattle.cell_core.specs.declared.cells.Src.TheVariants.{Cell as Made}
use Rattle.cell_meaning.specs.Moved.{new_cell, AreMoved}
use Rattle.cell_meaning.proofs.Moves.{moved_more, come_moved}
use Rattle.cell_rewriting.proofs.moving.Moved.come.Goals as goal

pub returns-in-Some-get_mut : goal.returns-in-Some-get_mut
returns-in-Some-get_mut c =
    let items : c.push.new.self.items ≡ c.args.self.now.cells.items ++ (c.in-Some-new_cell.cell ∷ []) = search rules in
    let at : slice_get c.args.subst.now.list.cells c.args.number ≡ Some c.in-Some.old = search rules in
    let is : new_cell c.args.self.now.news.items c.in-Some.old ≡ Some c.in-Some-new_cell.cell = search rules in
    let last : c.in-Ok.last ≡ length c.args.self.now.cells.items = search rules in
    let inside : c.args.number < length c.args.self.now.news.items = search rules in
    subst (λ l. AreMoved c.args.subst.now.list l (slice_set c.args.self.now.news.items c.args.number (Some (Made c.in-Ok.last)))) (sym items)
    (come_moved c.args.subst.now.list c.args.self.now.cells.items c.args.self.now.news.items c.requires c.args.number c.in-Some.old c.in-Some-new_cell.cell at is c.in-Ok.last last inside)

pub returns-in_default-get_mut : goal.returns-in_default-get_mut
returns-in_default-get_mut c =
    let items : c.push.new.self.items ≡ c.args.self.now.cells.items ++ (c.in-Some-new_cell.cell ∷ []) = search rules in
    let at : slice_get c.args.subst.now.list.cells c.args.number ≡ Some c.in-Some.old = search rules in
    let is : new_cell c.args.self.now.news.items c.in-Some.old ≡ Some c.in-Some-new_cell.cell = search rules in
    subst (λ l. AreMoved c.args.subst.now.list l c.args.self.now.news.items) (sym items)
    (moved_more c.args.subst.now.list c.args.self.now.cells.items c.args.self.now.news.items c.requires c.args.number c.in-Some.old c.in-Some-new_cell.cell at is)

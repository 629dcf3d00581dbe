use Rattle.std.proofs.Common.{rules, ◌≡◌, sym, subst, ◌<◌, length, Some, ◌++◌, [], ◌∷◌, slice_set, slice_get}
use Rattle.cell_order.specs.Renamed.{renamed_cell, AreRenamed}
use Rattle.cell_order.proofs.Moves.{moved_more, moved_numbered}
use Rattle.cell_order.proofs.moving.Moved.add.Goals as goal

-- src/moving.rt:54:5
pub returns-in-Some-get_mut : goal.returns-in-Some-get_mut
returns-in-Some-get_mut c =
    let items : c.push.new.self.items ≡ c.args.self.now.cells.items ++ (c.in-Some-renamed_cell.cell ∷ []) = search rules in
    let at : slice_get c.args.list.now.cells c.args.number ≡ Some c.in-Some.old = search rules in
    let is : renamed_cell c.args.self.now.numbers.items c.in-Some.old ≡ Some c.in-Some-renamed_cell.cell = search rules in
    let last : c.in-Ok.place ≡ length c.args.self.now.cells.items = search rules in
    let inside : c.args.number < length c.args.self.now.numbers.items = search rules in
    subst (λ l. AreRenamed c.args.list.now l (slice_set c.args.self.now.numbers.items c.args.number (Some c.in-Ok.place))) (sym items)
    (moved_numbered c.args.list.now c.args.self.now.cells.items c.args.self.now.numbers.items c.requires c.args.number c.in-Some.old c.in-Some-renamed_cell.cell at is c.in-Ok.place last inside)

-- src/moving.rt:54:5
pub returns-in_default-get_mut : goal.returns-in_default-get_mut
returns-in_default-get_mut c =
    let items : c.push.new.self.items ≡ c.args.self.now.cells.items ++ (c.in-Some-renamed_cell.cell ∷ []) = search rules in
    let at : slice_get c.args.list.now.cells c.args.number ≡ Some c.in-Some.old = search rules in
    let is : renamed_cell c.args.self.now.numbers.items c.in-Some.old ≡ Some c.in-Some-renamed_cell.cell = search rules in
    subst (λ l. AreRenamed c.args.list.now l c.args.self.now.numbers.items) (sym items)
    (moved_more c.args.list.now c.args.self.now.cells.items c.args.self.now.numbers.items c.requires c.args.number c.in-Some.old c.in-Some-renamed_cell.cell at is)

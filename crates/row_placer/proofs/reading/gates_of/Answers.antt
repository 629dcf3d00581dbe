use Rattle.std.proofs.Common.{sym, ◌∙◌, ap, ap₂, subst, ◌<◌, ◌++◌, ◌∷◌, [], map, length, get_or, arith}
use Rattle.std.proofs.lemmas.Result.{err_from_is_err_and}
use Rattle.std.proofs.lemmas.List.{map_more, take_all}
use Rattle.std.proofs.lemmas.Option.{get_or_from_slice_get}
use Rattle.cell_core.specs.declared.cells.Src.TheVariants.{Zero}
use Rattle.cell_core.specs.declared.cells.Cell.TheVariants.{Or}
use Rattle.row_placer.specs.Numbers.{gate_of, ReadsThere}
use Rattle.row_placer.proofs.There.{reads_later}
use Rattle.row_placer.proofs.reading.gates_of.Goals as goal

pub find_gate-requires-clause-there : goal.find_gate-requires-clause-there
find_gate-requires-clause-there c =
    let list = c.args.list.now in
    let below : c.loop-at.at < length list.cells = omega (arith, c.loop-at-test.true, c.len.ensures) in
    subst (ReadsThere list (length list.cells)) (get_or_from_slice_get list.cells c.loop-at.at c.get.result.now (Or Zero Zero) c.get.ensures)
    (reads_later list c.loop-at.at (length list.cells) (get_or list.cells c.loop-at.at (Or Zero Zero)) (omega (arith, below)) (c.requires.sound.cells c.loop-at.at (Or Zero Zero) below))

pub returns-in_err-push : goal.returns-in_err-push
returns-in_err-push c = rw ((err_from_is_err_and c.from_residual.result c.from_residual.ensures.1).1) tt

pub loop-at-init : goal.loop-at-init
loop-at-init c = c.new-gates.ensures.items

pub returns : goal.returns
returns c = c.loop-at.invariant ∙ ap (map (gate_of c.args.list.now)) (take_all c.loop-at.at c.args.list.now.cells (omega (arith, c.loop-at-test.false, c.len.ensures)))

pub loop-at-preserved : goal.loop-at-preserved
loop-at-preserved c =
    let f = gate_of c.args.list.now in
    let cells = c.args.list.now.cells in
    let below : c.loop-at.at < length cells = omega (arith, c.loop-at-test.true, c.len.ensures) in
    c.in_ok-push.ensures.items
    ∙ ap₂ (λ xs p. xs ++ p ∷ []) c.loop-at.invariant (c.find_gate.ensures ∙ ap f (sym (get_or_from_slice_get cells c.loop-at.at c.get.result.now (Or Zero Zero) c.get.ensures)))
    ∙ sym (map_more f cells c.loop-at.at (Or Zero Zero) below)

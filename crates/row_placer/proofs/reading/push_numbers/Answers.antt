use Rattle.std.proofs.Common.{◌∙◌, ap, List, ◌++◌, map, arith}
use Rattle.std.proofs.lemmas.Result.{err_from_is_err_and}
use Rattle.std.proofs.lemmas.List.{take_all}
use Rattle.lists.proofs.Cuts.{added_more}
use Rattle.cell_core.specs.declared.cells.Src.{Src}
use Rattle.row_placer.specs.Numbers.{number}
use Rattle.row_placer.proofs.reading.push_numbers.Goals as goal

pub returns-in_err-push : goal.returns-in_err-push
returns-in_err-push c = rw ((err_from_is_err_and c.from_residual.result c.from_residual.ensures.1).1) tt

pub returns : goal.returns
returns c =
    c.loop-at.invariant
    ∙ ap (λ (srcs : List Src). c.args.numbers.now.items ++ map (number c.args.list.now) srcs) (take_all c.loop-at.at c.args.srcs.now (omega (arith, c.loop-at-test.false)))

pub loop-at-preserved : goal.loop-at-preserved
loop-at-preserved c =
    added_more (number c.args.list.now) c.args.numbers.now.items c.loop-at.numbers.items c.push.new.self.items c.args.srcs.now c.loop-at.at _ _
    (omega (arith, c.loop-at-test.true)) c.in_ok-push.ensures.items c.number_of.ensures c.loop-at.invariant

use Rattle.std.proofs.Common.{[], ap, ◌∙◌, map}
use Rattle.std.proofs.lemmas.List.{take_all}
use Rattle.lists.proofs.Cuts.{added_more}
use Rattle.std.proofs.lemmas.Result.{err_from_is_err_and}
use Rattle.aiger_meaning.specs.FlatOf.{row_character}
use Rattle.aiger_meaning.proofs.nodes.row_of.Goals as goal

pub returns-in_err-row : goal.returns-in_err-row
returns-in_err-row c = rw ((err_from_is_err_and c.from_residual.result c.from_residual.ensures.1).1) tt

pub returns-in_err-push : goal.returns-in_err-push
returns-in_err-push c = rw ((err_from_is_err_and c.from_residual-in_err-push.result c.from_residual-in_err-push.ensures.1).1) tt

pub loop-lit-init : goal.loop-lit-init
loop-lit-init c = c.in_ok-row.ensures.items

pub loop-lit-preserved : goal.loop-lit-preserved
loop-lit-preserved c =
    added_more row_character [] c.loop-lit.row.items c.push.new.self.items c.args.lits.now c.loop-lit.lit-index _ _ c.loop-lit-test.true
    c.in_ok-push.ensures.items c.row_character.ensures c.loop-lit.invariant

pub returns : goal.returns
returns c = c.loop-lit.invariant ∙ ap (map row_character) (take_all c.loop-lit.lit-index c.args.lits.now c.loop-lit-test.false)

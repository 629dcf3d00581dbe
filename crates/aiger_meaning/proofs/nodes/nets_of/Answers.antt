use Rattle.std.proofs.Common.{◌==◌, ◌∙◌, [], ap, map}
use Rattle.std.specs.List.{position_or_len}
use Rattle.aiger_text.specs.EntryFaults.{even}
use Rattle.lists.proofs.Cuts.{added_more}
use Rattle.std.proofs.lemmas.Result.{err_from_is_err_and}
use Rattle.std.proofs.lemmas.List.{take_all}
use Rattle.aiger_meaning.specs.FlatOf.{net_id, net_of_literal}
use Rattle.aiger_meaning.proofs.nodes.nets_of.Goals as goal

pub returns-in_err-ids : goal.returns-in_err-ids
returns-in_err-ids c = rw ((err_from_is_err_and c.from_residual.result c.from_residual.ensures.1).1) tt

pub returns-in_err-push : goal.returns-in_err-push
returns-in_err-push c = rw ((err_from_is_err_and c.from_residual-in_err-push.result c.from_residual-in_err-push.ensures.1).1) tt

pub loop-lit-init : goal.loop-lit-init
loop-lit-init c = c.in_ok-ids.ensures.items

pub returns : goal.returns
returns c = c.loop-lit.invariant ∙ ap (map (λ lit. net_id (net_of_literal c.args.aig.now lit))) (take_all c.loop-lit.lit-index c.args.lits.now c.loop-lit-test.false)

pub loop-lit-preserved : goal.loop-lit-preserved
loop-lit-preserved c =
    added_more (λ lit. net_id (net_of_literal c.args.aig.now lit)) [] c.loop-lit.ids.items c.push.new.self.items c.args.lits.now c.loop-lit.lit-index _ _ c.loop-lit-test.true
    c.in_ok-push.ensures.items (ap net_id (c.net.ensures.net ∙ ap (position_or_len (λ own. own == even _)) c.requires.own)) c.loop-lit.invariant

use Rattle.std.proofs.Common.{refl, ap, ◌∙◌, ◌++◌, List, map}
use Rattle.std.proofs.lemmas.List.{take_all}
use Rattle.lists.proofs.Cuts.{added_more}
use Rattle.aiger_text.specs.declared.aig.AigAnd.{AigAnd}
use Rattle.std.proofs.lemmas.Result.{err_from_is_err_and}
use Rattle.aiger_meaning.proofs.literals.push_gates.Goals as goal

pub returns-in_err-push : goal.returns-in_err-push
returns-in_err-push c = rw ((err_from_is_err_and c.from_residual.result c.from_residual.ensures.1).1) tt

pub loop-gate-preserved : goal.loop-gate-preserved
loop-gate-preserved c =
    added_more (λ (gate : AigAnd). gate.lhs) c.args.literals.now.items c.loop-gate.literals.items c.push.new.self.items c.args.gates.now c.loop-gate.gate-index _ _ c.loop-gate-test.true
    c.in_ok-push.ensures.items refl c.loop-gate.invariant

pub returns : goal.returns
returns c =
    c.loop-gate.invariant
    ∙ ap (λ (gates : List AigAnd). c.args.literals.now.items ++ map (λ (gate : AigAnd). gate.lhs) gates) (take_all c.loop-gate.gate-index c.args.gates.now c.loop-gate-test.false)

use Rattle.std.proofs.lemmas.Result.{IfOk-weaker}
use Rattle.cell_sharing.proofs.Growing.{both}
use Rattle.cell_sharing.proofs.Sharing.{both_by_negation}
use Rattle.cell_sharing.proofs.gates.and.Goals as goal

pub returns-in-Some : goal.returns-in-Some
returns-in-Some c =
    IfOk-weaker c.and_not.result _ _ (λ src h. both_by_negation c.args.list.now c.and_not.new.list c.args.a c.args.b c.in-Some.negation src c.in-Some.ensures h) c.and_not.ensures

pub returns : goal.returns
returns c =
    IfOk-weaker c.and_not-3.result _ _ (λ src h. both c.args.list.now c.and_not-2.new.list c.and_not-3.new.list c.args.a c.args.b c.in_ok-rest.rest src c.requires.first c.in_ok-rest.ensures h) c.and_not-3.ensures

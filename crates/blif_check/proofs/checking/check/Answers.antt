use Rattle.std.proofs.Common.{List, subst}
use Rattle.std.proofs.lemmas.Option.{MatchOption-at_some}
use Rattle.netlist_core.specs.declared.model.Model.{Model}
use Rattle.netlist_rules.specs.ModelFaults.{AreFaultless, HasModelFault}
use Rattle.blif_check.proofs.OneOrNone.{not_both}
use Rattle.blif_check.proofs.checking.check.Goals as goal

pub returns-in-Some-clause-passes : goal.returns-in-Some-clause-passes
returns-in-Some-clause-passes c = λ none.
    let fault = MatchOption-at_some (AreFaultless c.as_slice.result.now) (HasModelFault c.as_slice.result.now) c.in-Some.fault c.in-Some.is c.in_ok-fault.ensures in
    absurd (not_both c.args.models c.in-Some.fault none (subst (λ (models : List Model). HasModelFault models c.in-Some.fault) c.as_slice.ensures fault))

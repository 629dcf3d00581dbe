-- The first rule that is broken, of rules in order.
use Rattle.std.proofs.Common.{◌≡◌, refl, sym, ap, ◌∙◌, List, [], ◌∷◌, Option, Some, None, Result, IfOk}
use Rattle.std.proofs.lemmas.Result.{IfOk-weaker}
use Rattle.std.specs.Option.{option_or}
use Rattle.netlist_core.specs.declared.model.Model.{Model}
use Rattle.netlist_rules.specs.declared.fault.Fault.{Fault}
use Rattle.netlist_rules.specs.declared.fault.FaultKind.{FaultKind}
use Rattle.netlist_rules.specs.ModelFaults.{first_broken_by}
use Rattle.model_words.specs.EarliestBroken.{earliest_broken}

-- the first of them is broken, or is passed over
pub broken : (kind : FaultKind) (kinds : List FaultKind) (models : List Model) (found : Option Fault) (fault : Fault) → found ≡ earliest_broken kind models → found ≡ Some fault → first_broken_by (kind ∷ kinds) models ≡ Some fault
broken kind kinds models found fault is some = ap (λ o. option_or o (first_broken_by kinds models)) (sym is ∙ some)

pub passed : (kind : FaultKind) (kinds : List FaultKind) (models : List Model) (found : Option Fault) → found ≡ earliest_broken kind models → found ≡ None → first_broken_by (kind ∷ kinds) models ≡ first_broken_by kinds models
passed kind kinds models found is none = ap (λ o. option_or o (first_broken_by kinds models)) (sym is ∙ none)

-- all but the last are passed over
pub if_ok_last : {E : Type 0} (kind : FaultKind) (kinds : List FaultKind) (models : List Model) (r : Result (Option Fault) E) → first_broken_by kinds models ≡ first_broken_by (kind ∷ []) models → IfOk r (λ found. found ≡ earliest_broken kind models) → IfOk r (λ found. found ≡ first_broken_by kinds models)
if_ok_last kind kinds models r others is = IfOk-weaker r (λ found. found ≡ earliest_broken kind models) (λ found. found ≡ first_broken_by kinds models) (λ found e. e ∙ sym (alone (earliest_broken kind models)) ∙ sym others) is
  where
    alone : (o : Option Fault) → option_or o None ≡ o
    alone None = refl
    alone (Some fault) = refl

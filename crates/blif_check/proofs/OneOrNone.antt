-- Models do not break a rule and break none.
use Rattle.std.proofs.Common.{◌≡◌, inl, inr, sym, ap, ◌∙◌, ℕ, List, Option, Some, None, Result, IfOk, MatchOption}
use Rattle.std.proofs.lemmas.Result.{IfOk-weaker}
use Rattle.std.specs.Option.{option_or}
use Rattle.netlist_core.specs.declared.model.Model.{Model}
use Rattle.netlist_rules.specs.declared.fault.Fault.{Fault}
use Rattle.netlist_rules.specs.Circles.{IsCircleFault, IsOnCircle}
use Rattle.netlist_rules.specs.ModelFaults.{AreFaultless, HasModelFault, first_broken_by, model_fault, model_rules, no_model}

pub not_both : (models : List Model) (fault : Fault) → AreFaultless models → HasModelFault models fault → ⊥
not_both models fault none (inl by) = let e : Some fault ≡ None = sym by ∙ none.no_fault in absurd (cc)
not_both models fault none (inr by) = none.no_circle fault.line by.1.names by.1.circle

-- where no rule but the one on circles is broken
pub circle_or_none : {E : Type 0} (models : List Model) (r : Result (Option Fault) E) → no_model models ≡ None → first_broken_by model_rules models ≡ None → IfOk r (λ found. MatchOption found ((line : ℕ) (names : List (List ℕ)) → ¬ IsOnCircle models line names) (IsCircleFault models)) → IfOk r (λ found. MatchOption found (AreFaultless models) (HasModelFault models))
circle_or_none models r some_model none = IfOk-weaker r _ _ by_found
  where
    no_fault : model_fault models ≡ None
    no_fault = ap (λ o. option_or o (first_broken_by model_rules models)) some_model ∙ none

    by_found : (found : Option Fault) → MatchOption found ((line : ℕ) (names : List (List ℕ)) → ¬ IsOnCircle models line names) (IsCircleFault models) → MatchOption found (AreFaultless models) (HasModelFault models)
    by_found None no_circle = record { no_fault = no_fault; no_circle = no_circle }
    by_found (Some fault) circle = inr (no_fault, circle)

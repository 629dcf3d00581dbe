-- A plan of one of several lists.
use Rattle.std.proofs.Common.{◌≡◌, sym, ap, ap₂, subst, ℕ, Bool, List, [], ◌∷◌, length, get_or, arith}
use Rattle.std.specs.Prelude.{All}
use Rattle.cell_core.specs.declared.list.CellList.{CellList}
use Rattle.lane_core.specs.declared.plan.Plan.{Plan}
use Rattle.cell_plans.specs.PlanOf.{IsPlannable, IsPlanOf, IsPlanOfOne}

-- where there is one list, it is of that
pub only : (list : CellList) (lists : List CellList) (number : ℕ) (plan : Plan) → lists ≡ list ∷ [] → IsPlanOfOne lists number plan → IsPlanOf list plan
only list lists number plan is one =
    let zero : number ≡ 0 = omega (arith, one.0, ap length is) in
    subst (λ l. IsPlanOf l plan) (ap₂ (λ ls k. get_or ls k list) is zero) (one.1 list)

pub one_short : (list : CellList) (lists : List CellList) → lists ≡ list ∷ [] → IsPlannable list → All IsPlannable lists
one_short list lists is short k d below =
    let zero : k ≡ 0 = omega (arith, below, ap length is) in
    subst IsPlannable (sym (ap₂ (λ ls j. get_or ls j d) is zero)) short

-- where there is one context, its list of starts is as long as itself
pub one_long : (bits : List Bool) (starts : List (List Bool)) → starts ≡ bits ∷ [] → All (λ (start : List Bool). length start ≡ length bits) starts
one_long bits starts is k d below =
    let zero : k ≡ 0 = omega (arith, below, ap length is) in
    ap₂ (λ (ls : List (List Bool)) (j : ℕ). length (get_or ls j d)) is zero

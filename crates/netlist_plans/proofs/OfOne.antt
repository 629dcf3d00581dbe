-- The plan of one of several lists.
use Rattle.std.proofs.Common.{ℕ, List, [], ◌∷◌, arith}
use Rattle.std.specs.Prelude.{◌<◌, ◌^◌, All, get_or}
use Rattle.std.proofs.lemmas.List.Elements.{All-get_or}
use Rattle.lane_core.specs.declared.plan.Plan.{Plan}
use Rattle.netlist_core.specs.declared.flat.Flat.{Flat}
use Rattle.netlist_meaning.specs.Flat.{IsWeighed}
use Rattle.cell_core.specs.declared.list.CellList.{CellList}
use Rattle.cell_plans.specs.PlanOf.{IsPlanOfOne, IsPlannable}
use Rattle.plan_carries.specs.Compiled.{ComputesFlat}
use Rattle.netlist_plans.specs.Lists.{IsPlanned}
use Rattle.netlist_plans.proofs.Bounds.{list_fits}

pub is_planned : (flat : Flat) (lists : List CellList) (number : ℕ) (plan : Plan) → All (ComputesFlat flat) lists → IsPlanOfOne lists number plan → IsPlanned flat plan
is_planned flat [] number plan all (within, is) = absurd (omega (arith, within))
is_planned flat (first ∷ rest) number plan all (within, is) =
    record {
      list = get_or (first ∷ rest) number first;
      computes = All-get_or (ComputesFlat flat) (first ∷ rest) number first within all;
      is = is first;
    }

pub all_short : (flat : Flat) (lists : List CellList) → IsWeighed flat → flat.weight < 2 ^ 16 → All (ComputesFlat flat) lists → All IsPlannable lists
all_short flat lists weighed small all = λ i d lt. list_fits flat _ (all i d lt).mapped weighed small

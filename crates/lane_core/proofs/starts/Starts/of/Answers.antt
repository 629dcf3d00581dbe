use Rattle.std.proofs.Common.{◌∙◌, ap}
use Rattle.std.proofs.lemmas.List.Filters.{dedup_is}
use Rattle.lane_core.specs.Starts.{is_start_at}
use Rattle.lane_core.proofs.Naming.{same, sorted_once, keeps_names}
use Rattle.lane_core.proofs.starts.Starts.of.Goals as goal

pub invariant_of-result : goal.invariant_of-result
invariant_of-result c =
    let is = dedup_is same _ _ c.dedup.ensures.filtered in
    record { in_order = rw (c.of.ensures, is) (sorted_once _ c.sort_unstable.ensures.sorted) }

pub returns : goal.returns
returns c x y =
    let is = dedup_is same _ _ c.dedup.ensures.filtered in
    ap (λ names. is_start_at names x y) (c.of.ensures ∙ is) ∙ keeps_names _ _ c.sort_unstable.ensures.permutation x y

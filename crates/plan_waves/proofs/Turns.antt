-- A signal in the turns of its loop.
use Rattle.std.proofs.Common.{refl, ℕ, ◌+◌, ◌-◌, ◌*◌, ◌<◌, ◌≢◌, length, arith}
use Rattle.tiling.specs.Tiling.{Lit}
use Rattle.tiling.specs.Tiling.Edge.{Beside, Above}
use Rattle.lane_core.specs.declared.plan.Plan.{Plan}
use Rattle.lane_core.specs.Plans.{IsAdmissible}
use Rattle.plan_layout.specs.Layout.{end_of_body, tiling_of}
use Rattle.plan_layout.proofs.Matched.{tiling_is_matched}
use Rattle.plan_waves.specs.Waves.{GoesOn, loop_exit}
use Rattle.plan_waves.proofs.Passing.{above_same, beside_same, east_south_passes, south_west_passes, west_north_passes, north_east_passes}
use Rattle.plan_layout.proofs.Parts.{right_along, right_upper_corner, right_across, right_lower_corner, right_back, left_back, left_lower_corner, left_across, left_upper_corner, left_along}
use Rattle.plan_waves.proofs.Paths.{Reaches, passed_on, loop_lane, below_body, other_column, below_inside, left_inside, right_inside, once, joined, renamed, east, south, west, north}

-- from where loop s leaves the body to the beginning of its way back
pub right_turn : (plan : Plan) → IsAdmissible plan → (edges : ℕ → Lit) → GoesOn plan edges → (loop : ℕ) → loop < plan.latches
    → Reaches plan edges (4 * loop + 2) (loop_exit plan loop) (Beside (end_of_body plan) (plan.lanes + loop))
right_turn plan h edges g loop inside =
    let fits = h.size.loops_on_lanes in
    let m = tiling_is_matched plan h in
    let q = end_of_body plan in
    let columns : 0 < length plan.columns = omega (arith, h.size.loops_in_columns) in
    let beside : (t : ℕ) → q + t ≢ plan.latches = λ t e. absurd (omega arith) in
    let upper = plan.lanes - 1 - loop in
    let lower = plan.lanes + loop in
    let along : Reaches plan edges loop (Beside q upper) (Beside (q + loop) upper) =
    east plan h edges g loop q upper (omega arith) (λ t w. beside t) (λ t w. right_inside plan (q + (t + 1)) upper (omega arith)) (λ t w. right_along plan h loop t inside w) in
    let down : Reaches plan edges 1 (Beside (q + loop) upper) (Above (q + loop) (plan.lanes - loop)) =
    once plan edges _ _ (passed_on plan edges g (Beside (q + loop) upper) (Above (q + loop) (plan.lanes - loop)) (other_column plan (q + loop) upper (beside loop)) refl refl
    (east_south_passes (tiling_of plan) m (q + loop) upper (plan.lanes - loop) (omega arith) (right_upper_corner plan h loop inside))) in
    let across : Reaches plan edges (2 * loop) (Above (q + loop) (plan.lanes - loop)) (Above (q + loop) lower) =
    renamed plan edges _ _ _ _ _ _ refl refl (above_same (q + loop) (q + loop) (plan.lanes - loop + 2 * loop) lower refl (omega arith))
    (south plan h edges g (2 * loop) (q + loop) (plan.lanes - loop) (λ t w. right_across plan h loop t inside w)) in
    let out : Reaches plan edges 1 (Above (q + loop) lower) (Beside (q + loop) lower) =
    once plan edges _ _ (passed_on plan edges g (Above (q + loop) lower) (Beside (q + loop) lower) refl (loop_lane plan (q + loop) lower (omega arith)) (below_inside plan (q + loop) lower (omega arith))
    (south_west_passes (tiling_of plan) m (q + loop) lower (right_lower_corner plan loop inside))) in
    let back : Reaches plan edges loop (Beside (q + loop) lower) (Beside q lower) =
    west plan h edges g loop q lower (omega arith) (λ t w. right_back plan loop t inside w) in
    renamed plan edges (loop + (1 + (2 * loop + (1 + loop)))) (4 * loop + 2) _ _ _ _ (omega arith) refl refl
    (joined plan edges _ _ _ _ _ along (joined plan edges _ _ _ _ _ down (joined plan edges _ _ _ _ _ across (joined plan edges _ _ _ _ _ out back))))

-- from the end of a way back to the body, in the left turn that has so many others inside it
pub left_turn : (plan : Plan) → IsAdmissible plan → (edges : ℕ → Lit) → GoesOn plan edges → (inside : ℕ) → inside < plan.latches
    → Reaches plan edges (4 * inside + 2) (Beside plan.latches (plan.lanes + inside)) (Beside plan.latches (plan.lanes - 1 - inside))
left_turn plan h edges g inside some =
    let fits = h.size.loops_on_lanes in
    let m = tiling_is_matched plan h in
    let q = plan.latches - 1 - inside in
    let next = plan.latches - inside in
    let upper = plan.lanes - 1 - inside in
    let lower = plan.lanes + inside in
    let along : Reaches plan edges inside (Beside plan.latches lower) (Beside next lower) =
    renamed plan edges _ _ _ _ _ _ refl (beside_same (next + inside) plan.latches lower lower (omega arith) refl) refl
    (west plan h edges g inside next lower (omega arith) (λ t w. left_back plan inside t some w)) in
    let up : Reaches plan edges 1 (Beside next lower) (Above q lower) =
    once plan edges _ _ (passed_on plan edges g (Beside next lower) (Above q lower) (below_body plan next lower (omega arith)) refl refl
    (west_north_passes (tiling_of plan) m q next lower (omega arith) (left_lower_corner plan inside some))) in
    let across : Reaches plan edges (2 * inside) (Above q lower) (Above q (plan.lanes - inside)) =
    renamed plan edges _ _ _ _ _ _ refl (above_same q q (plan.lanes - inside + 2 * inside) lower refl (omega arith)) refl
    (north plan h edges g (2 * inside) q (plan.lanes - inside) (λ t w. left_across plan h inside t some w)) in
    let out : Reaches plan edges 1 (Above q (plan.lanes - inside)) (Beside next upper) =
    once plan edges _ _ (passed_on plan edges g (Above q (plan.lanes - inside)) (Beside next upper) refl (loop_lane plan next upper (omega arith)) (left_inside plan next upper (omega arith))
    (north_east_passes (tiling_of plan) m q next upper (plan.lanes - inside) (omega arith) (omega arith) (left_upper_corner plan h inside some))) in
    let back : Reaches plan edges inside (Beside next upper) (Beside plan.latches upper) =
    renamed plan edges _ _ _ _ _ _ refl refl (beside_same (next + inside) plan.latches upper upper (omega arith) refl)
    (east plan h edges g inside next upper (omega arith) (λ t w e. absurd (omega arith)) (λ t w. left_inside plan (next + (t + 1)) upper (omega arith)) (λ t w. left_along plan h inside t some w)) in
    renamed plan edges (inside + (1 + (2 * inside + (1 + inside)))) (4 * inside + 2) _ _ _ _ (omega arith) refl refl
    (joined plan edges _ _ _ _ _ along (joined plan edges _ _ _ _ _ up (joined plan edges _ _ _ _ _ across (joined plan edges _ _ _ _ _ out back))))

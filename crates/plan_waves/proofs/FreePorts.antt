-- What stands beside the ports of a plan.
use Rattle.std.proofs.Common.{◌≡◌, refl, ◌∙◌, ap, Bool, true, false, pos, ℕ, ◌-◌, ◌*◌, ◌/◌, ◌%◌, ◌<◌, ◌≤◌, ◌&&◌, ◌||◌, cond, ⊎_elim, arith, int_eq}
use Rattle.std.specs.Prelude.{◌==◌, slice_index}
use Rattle.std.specs.List.{list_any}
use Rattle.std.proofs.lemmas.Bool.{cases_lt, cond-false, false_from_ne_true}
use Rattle.std.proofs.lemmas.Bool.Decides.{nat_tests, Decides-int_eq}
use Rattle.std.proofs.lemmas.Int.{ints}
use Rattle.ww_rule.specs.declared.pattern.State.TheVariants.{Empty}
use Rattle.tile_core.specs.declared.kind.Kind.{Kind}
use Rattle.tile_core.specs.declared.kind.Kind.TheVariants as kind
use Rattle.tile_core.specs.Drawing.{Drawing}
use Rattle.tiling.specs.Tiling.{Lit, drawn_slot, drawn_piece, output_drawing}
use Rattle.tiling.specs.Tiling.Piece.{Output}
use Rattle.tiling.specs.Tiling.Slot.{Nothing, Whole}
use Rattle.lane_core.specs.declared.plan.Plan.{Plan}
use Rattle.lane_core.specs.Plans.{IsAdmissible}
use Rattle.lane_core.specs.Entering.{first_loop_lane}
use Rattle.plan_layout.specs.Layout.{end_of_body, upper_left, in_body, upper_right, tiling_of}
use Rattle.plan_layout.specs.Planes.{plane_with}
use Rattle.plan_layout.proofs.Matched.{tiling_of-upper}
use Rattle.plan_layout.proofs.Columns.{by_column-right}
use Rattle.plan_waves.specs.Beside.{PortsStandFree}
use Rattle.plan_layout.proofs.Parts.{nothing_left, turn_beyond}

-- an output cell draws nothing beyond its first column
output_alone : (library : Kind → Drawing) (lit : Lit) (q l x y : ℕ) → 0 < x → drawn_piece library lit q l Output x y ≡ Empty
output_alone library lit q l x y some =
    let no : int_eq (pos x) (pos 0) ≡ false = false_from_ne_true _ (λ e. absurd (omega (arith, ints, some, (Decides-int_eq (pos x) (pos 0)).0 e))) in
    let beside : output_drawing (pos x) (pos y) ≡ false = ap (λ b. (b && int_eq (pos y) (pos 8)) || false) no in
    cond-false (output_drawing (pos x) (pos y)) _ Empty beside

-- nor does the block in which it stands, or one with nothing, whichever of the two it is
output_or_nothing : (library : Kind → Drawing) (lit : Lit) (q l x y : ℕ) (b : Bool) → 0 < x → drawn_slot library lit q l (cond b (Whole Output) Nothing) x y ≡ Empty
output_or_nothing library lit q l x y true some = output_alone library lit q l x y some
output_or_nothing library lit q l x y false some = refl

-- right of the body, on the lanes that no loop leaves on
right_of_body : (plan : Plan) → IsAdmissible plan → (q l : ℕ) → end_of_body plan ≤ q → l < first_loop_lane plan.lanes plan.latches
    → tiling_of plan q l ≡ cond (q == end_of_body plan && list_any (λ out. out == l) plan.outs) (Whole Output) Nothing
right_of_body plan h q l right low =
    tiling_of-upper plan q l (omega arith)
    ∙ by_column-right plan q (upper_left plan q l) (in_body plan q l) (upper_right plan q l) right
    ∙ ap (cond (q == end_of_body plan && list_any (λ out. out == l) plan.outs) (Whole Output))
    (turn_beyond plan.latches (q - end_of_body plan) (plan.lanes - 1 - l) kind.East kind.EastSouth kind.South (omega arith))

-- so nothing is drawn there but the output cell itself
right_is_free : (plan : Plan) → IsAdmissible plan → (library : Kind → Drawing) (lit : Lit) (x y : ℕ) → y / 16 < first_loop_lane plan.lanes plan.latches → 32 * end_of_body plan < x
    → plane_with library plan lit (pos x) (pos y) ≡ Empty
right_is_free plan h library lit x y low right =
    let q = x / 32 in
    let l = y / 16 in
    let output : Bool = q == end_of_body plan && list_any (λ out. out == l) plan.outs in
    let beyond : end_of_body plan ≤ q = omega (arith, right) in
    ap (λ s. drawn_slot library lit q l s (x % 32) (y % 16)) (right_of_body plan h q l beyond low)
    ∙ ⊎_elim
    (λ past. (let no : (q == end_of_body plan) ≡ false = grind (arith, nat_tests) in
    ap (λ b. drawn_slot library lit q l (cond b (Whole Output) Nothing) (x % 32) (y % 16)) (ap (λ b. b && list_any (λ out. out == l) plan.outs) no)))
    (λ first. output_or_nothing library lit q l (x % 32) (y % 16) output (omega (arith, right, first)))
    (cases_lt (end_of_body plan) q)

pub ports_stand_free : PortsStandFree
ports_stand_free plan h library lit = record {
  west = λ i x y within row left. (let lane : y / 16 ≡ slice_index plan.ins i = omega (arith, row.0, row.1) in
      let low : y / 16 < first_loop_lane plan.lanes plan.latches = omega (arith, lane, h.ins.below i 0 within) in
      ap (λ s. drawn_slot library lit (x / 32) (y / 16) s (x % 32) (y % 16)) (nothing_left plan h (x / 32) (y / 16) (omega (arith, left)) low));
  east = λ i x y within row right. (let lane : y / 16 ≡ slice_index plan.outs i = omega (arith, row.0, row.1) in
      right_is_free plan h library lit x y (omega (arith, lane, h.outs.below i 0 within)) right);
}

-- What stands in a drawing stands near its north-western corner.
use Rattle.std.proofs.Common.{◌≡◌, sym, ◌∙◌, ap, ℕ, ◌+◌, ◌-◌, ◌*◌, ◌/◌, ◌^◌, ◌<◌, ◌≤◌, Bool, true, false, cond, ⊎_elim, List, [], ◌∷◌, length, arith}
use Rattle.std.specs.Prelude.{◌==◌}
use Rattle.std.proofs.lemmas.Bool.{true≢false, cases_lt}
use Rattle.std.proofs.Math.Nat.{mul-le-mul}
use Rattle.tiling.specs.Tiling.{Slot}
use Rattle.tiling.specs.Tiling.Slot.{Nothing, Whole, Upper, Lower}
use Rattle.lane_core.specs.declared.plan.Plan.{Plan}
use Rattle.lane_core.specs.Plans.{IsAdmissible, size_of}
use Rattle.lane_core.specs.Tape.{cycles_of, AreTapeLists, tape_cycles, cycle_tiles, tape_shift}
use Rattle.plan_layout.specs.Layout.{end_of_body}
use Rattle.plan_layout.specs.Tape.{drawn_tiling}
use Rattle.macro_grid.proofs.Drawings.{drawn_right, drawn_below}

few_cycles : (lists : List (List Bool)) → AreTapeLists lists → cycles_of lists ≤ 4096
few_cycles [] are = omega arith
few_cycles (first ∷ lists) are = (are.range 0 [] (omega arith)).1

few_tiles : (plan : Plan) → IsAdmissible plan → cycle_tiles plan ≤ 2 ^ 42
few_tiles plan h = by (plan.latches == 0)
  where
    by : (b : Bool) → cond b 32 (32 * (2 * length plan.columns + 4 * plan.latches)) / 32 ≤ 2 ^ 42
    by true = omega arith
    by false = omega (arith, h.size.columns, h.size.lanes, h.size.loops_on_lanes)

pub shift_near : (plan : Plan) → IsAdmissible plan → tape_shift plan ≤ 2 ^ 54
shift_near plan h =
    let cycles = few_cycles plan.tape h.tape.lists in
    let before : tape_cycles plan - 1 ≤ 4096 = omega (arith, cycles) in
    let tiles : (tape_cycles plan - 1) * cycle_tiles plan ≤ 4096 * 2 ^ 42 = mul-le-mul before (few_tiles plan h) in
    omega (arith, tiles)

-- something stands there
abbrev pub stands : Slot → Bool
stands Nothing = false
stands (Whole piece) = true
stands (Upper piece) = true
stands (Lower piece) = true

pub near : (plan : Plan) → IsAdmissible plan → (q l : ℕ) (slot : Slot) → slot ≡ drawn_tiling plan q l → stands slot ≡ true → (q < 2 ^ 56) × (l < 2 ^ 56)
near plan h q l slot is some =
    let shift = shift_near plan h in (
      ⊎_elim
          (λ near. omega (arith, near, shift, h.size.columns, h.size.lanes, h.size.loops_on_lanes))
          (λ far. absurd (true≢false (sym some ∙ ap stands (is ∙ drawn_right plan h q l far))))
          (cases_lt q (tape_shift plan + (end_of_body plan + plan.latches + 1))),
      ⊎_elim
          (λ high. omega (arith, high, h.size.lanes, h.size.loops_on_lanes))
          (λ low. absurd (true≢false (sym some ∙ ap stands (is ∙ drawn_below plan h q l low))))
          (cases_lt l (plan.lanes + plan.latches)),
    )

-- the box of a drawing is not large
pub size_near : (plan : Plan) → IsAdmissible plan → ((size_of plan).0 < 2 ^ 60) × ((size_of plan).1 < 2 ^ 60)
size_near plan h = by (plan.lanes == 0)
  where
    sized : Bool → ℕ × ℕ
    sized b = cond b (0, 0) (32 * (tape_shift plan + (length plan.columns + 2 * plan.latches)) + 1, 16 * (plan.lanes + plan.latches))

    by : (b : Bool) → ((sized b).0 < 2 ^ 60) × ((sized b).1 < 2 ^ 60)
    by true = (omega arith, omega arith)
    by false = (omega (arith, shift_near plan h, h.size.columns, h.size.lanes, h.size.loops_on_lanes), omega (arith, h.size.lanes, h.size.loops_on_lanes))

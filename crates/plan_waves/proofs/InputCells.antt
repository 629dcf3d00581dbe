-- The lanes and the cells of inputs.
use Rattle.std.proofs.Common.{◌≡◌, refl, sym, ◌∙◌, ℕ, zero, suc, ◌<◌, Bool, true, false, ◌&&◌, ⊎_elim, List, [], ◌∷◌, length, get_or, arith}
use Rattle.std.specs.Prelude.{◌==◌}
use Rattle.std.proofs.lemmas.Bool.{true≢false, or_cases, and_parts, eqb-true, or_left, or_right, and_from, eq-eqb}
use Rattle.std.proofs.lemmas.List.{get_or-map, get_or_past}
use Rattle.lane_core.specs.declared.plan.Plan.{Plan}
use Rattle.lane_core.specs.Plans.{left_of, row_of, input_cells}
use Rattle.lane_core.specs.Entering.{lane_bit}

-- a lane has a bit exactly where it is that of an input whose bit is 1
pub lane_of_input : (lanes : List ℕ) (bits : List Bool) (input : ℕ) → input < length lanes → get_or bits input false ≡ true → lane_bit lanes bits (get_or lanes input 0) ≡ true
lane_of_input [] bits input within one = absurd (omega arith)
lane_of_input (first ∷ lanes) [] input within one = absurd (true≢false (sym one ∙ get_or_past [] input false (omega arith)))
lane_of_input (first ∷ lanes) (bit ∷ bits) zero within one = or_left _ _ (and_from _ _ (eq-eqb first first refl) one)
lane_of_input (first ∷ lanes) (bit ∷ bits) (suc input) within one = or_right _ _ (lane_of_input lanes bits input (omega arith) one)

pub input_of_lane : (lanes : List ℕ) (bits : List Bool) (lane : ℕ) → lane_bit lanes bits lane ≡ true
    → (input : ℕ) × (input < length lanes) × (get_or lanes input 0 ≡ lane) × (get_or bits input false ≡ true)
input_of_lane [] bits lane lit = absurd (true≢false (sym lit))
input_of_lane (first ∷ lanes) [] lane lit = absurd (true≢false (sym lit))
input_of_lane (first ∷ lanes) (bit ∷ bits) lane lit =
    ⊎_elim
    (λ here. (let parts = and_parts (first == lane) bit here in (0, omega arith, eqb-true first lane parts.0, parts.1)))
    (λ later. (let rest = input_of_lane lanes bits lane later in (suc rest.0, omega (arith, rest.1), rest.2, rest.3)))
    (or_cases (first == lane && bit) (lane_bit lanes bits lane) lit)

pub input_cell : (plan : Plan) (input : ℕ) → input < length plan.ins → get_or (input_cells plan) input (0, 0) ≡ (left_of plan 0, row_of (get_or plan.ins input 0))
input_cell plan input within = get_or-map (λ lane. (left_of plan 0, row_of lane)) plan.ins input 0 (0, 0) within

-- The bit on a lane, input by input.
use Rattle.std.proofs.Common.{◌≡◌, refl, ◌∙◌, sym, ℕ, zero, suc, ◌<◌, Bool, true, false, ◌&&◌, List, [], ◌∷◌, length, get_or, arith}
use Rattle.std.specs.Prelude.{◌==◌}
use Rattle.std.proofs.lemmas.Bool.{true≢false, and_parts, or_left, or_right, or_from}
use Rattle.std.proofs.lemmas.List.{get_or_past}
use Rattle.lane_core.specs.Entering.{lane_bit}

-- the input of this number is on the lane, and has the bit 1
abbrev pub is_bit_of : List ℕ → List Bool → ℕ → ℕ → Bool
is_bit_of lanes bits lane number = get_or lanes number 0 == lane && get_or bits number false

pub bit_there : (lanes : List ℕ) (bits : List Bool) (lane number : ℕ) → number < length lanes → is_bit_of lanes bits lane number ≡ true → lane_bit lanes bits lane ≡ true
bit_there [] bits lane number within one = absurd (omega (arith, within))
bit_there (first ∷ lanes) [] lane number within one =
    absurd (true≢false (sym (and_parts (get_or (first ∷ lanes) number 0 == lane) (get_or {A = Bool} [] number false) one).1 ∙ get_or_past [] number false (omega arith)))
bit_there (first ∷ lanes) (bit ∷ bits) lane zero within one = or_left _ _ one
bit_there (first ∷ lanes) (bit ∷ bits) lane (suc number) within one = or_right _ _ (bit_there lanes bits lane number (omega (arith, within)) one)

pub no_bit : (lanes : List ℕ) (bits : List Bool) (lane : ℕ) → ((number : ℕ) → number < length lanes → is_bit_of lanes bits lane number ≡ false) → lane_bit lanes bits lane ≡ false
no_bit [] bits lane none = refl
no_bit (first ∷ lanes) [] lane none = refl
no_bit (first ∷ lanes) (bit ∷ bits) lane none = or_from _ _ (none 0 (omega arith)) (no_bit lanes bits lane (λ number within. none (suc number) (omega (arith, within))))

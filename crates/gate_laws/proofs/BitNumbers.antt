-- Numbers of bits.
use Rattle.std.proofs.Common.{◌≡◌, ◌≤◌, ◌+◌, ◌*◌, ℕ, refl, Bool, cond, List, [], ◌∷◌, length, arith}
use Rattle.lists.specs.Items.{flag_at}
use Rattle.gate_laws.specs.declared.window.OutCell.{OutCell}
use Rattle.gate_laws.specs.Drawings.{number_of_bits}

-- what stands where there is no output
abbrev pub no_out : OutCell
no_out = record { x = 0; y = 0; delay = 0; table = [] }

abbrev value : List Bool → ℕ → ℕ
value bits i = cond (flag_at bits i) 1 0

pub number_of_three : (bits : List Bool) → length bits ≤ 3 → value bits 0 + 2 * value bits 1 + 4 * value bits 2 ≡ number_of_bits bits
number_of_three [] few = refl
number_of_three (a ∷ []) few = omega arith
number_of_three (a ∷ b ∷ []) few = omega arith
number_of_three (a ∷ b ∷ c ∷ []) few = omega arith
number_of_three (a ∷ b ∷ c ∷ d ∷ bits) few = absurd (omega (arith, few))

-- Rows of a band.
use Rattle.std.proofs.Common.{ℤ, ℕ, ◌/◌, ◌%◌, ◌≡◌, ap, ◌∙◌, false, List, get_or}
use Rattle.ww_rule.specs.Wireworld.{Plane, count_head}
use Rattle.lane_kernel.specs.Rows.{state_of}
use Rattle.lists.specs.Bits.{has_bit}
use Rattle.lane_kernel.specs.PlaneRows.{ShowsHeads}

pub words_show : (a b : List ℕ) (p : Plane) (y : ℤ) → ((j : ℕ) → get_or a j 0 ≡ get_or b j 0) → ShowsHeads b p y → ShowsHeads a p y
words_show a b p y e h x = ap (λ w. count_head (state_of (has_bit w (x % 64)) false false)) (e (x / 64)) ∙ h x

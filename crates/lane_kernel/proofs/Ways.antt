-- The ways to the words beside a word, and back.
use Rattle.std.proofs.Common.{ℕ, ◌≡◌, refl, arith}
use Rattle.lane_kernel.specs.Around.{Way, beside, near_heads, IsInner}
use Rattle.lane_kernel.specs.Around.Way.{north, south, west, east, north_west, north_east, south_west, south_east}
use Rattle.lane_kernel.specs.Marked.{opposite}

pub there_and_back : (stride many : ℕ) (way : Way) (i : ℕ) → IsInner stride many i → beside stride (opposite way) (beside stride way i) ≡ i
there_and_back stride many north i inner = let from = inner.from in omega (arith, from)
there_and_back stride many south i inner = omega arith
there_and_back stride many west i inner = let from = inner.from in omega (arith, from)
there_and_back stride many east i inner = omega arith
there_and_back stride many north_west i inner = let from = inner.from in omega (arith, from)
there_and_back stride many north_east i inner = let from = inner.from in omega (arith, from)
there_and_back stride many south_west i inner = let from = inner.from in omega (arith, from)
there_and_back stride many south_east i inner = let from = inner.from in omega (arith, from)

pub back_again : (way : Way) → opposite (opposite way) ≡ way
back_again north = refl
back_again south = refl
back_again west = refl
back_again east = refl
back_again north_west = refl
back_again north_east = refl
back_again south_west = refl
back_again south_east = refl

-- beside no heads there are no cells
pub near_none : (way : Way) → near_heads way 0 ≡ 0
near_none north = refl
near_none south = refl
near_none west = refl
near_none east = refl
near_none north_west = refl
near_none north_east = refl
near_none south_west = refl
near_none south_east = refl

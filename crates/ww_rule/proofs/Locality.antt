-- How far a cell sees.
use Rattle.std.proofs.Common.{ℤ, pos, ◌+ℤ◌, ◌-ℤ◌, ◌≤ℤ◌, ℕ, zero, suc, ◌≡◌, ap, arith}
use Rattle.std.proofs.lemmas.Int.{ints}
use Rattle.ww_rule.specs.Wireworld.{Plane, next_plane, evolve, count_head}
use Rattle.ww_rule.specs.Laws.{AgreeNear}
use Rattle.ww_rule.proofs.Cells.{next_plane_counts}

-- planes that agree at distance 1 have the same next state there
pub next_plane_near : (p q : Plane) (x y : ℤ) → AgreeNear 1 p q x y → next_plane p x y ≡ next_plane q x y
next_plane_near p q x y agree =
    next_plane_counts p q x y (agree x y (omega (arith, ints)) (omega (arith, ints)) (omega (arith, ints)) (omega (arith, ints))) (λ u v a b c d. ap count_head (agree u v a b c d))

pub nearer : (n : ℕ) (p q : Plane) (x y x' y' : ℤ) → AgreeNear (suc n) p q x y → (x -ℤ pos 1) ≤ℤ x' → x' ≤ℤ (x +ℤ pos 1) → (y -ℤ pos 1) ≤ℤ y' → y' ≤ℤ (y +ℤ pos 1) → AgreeNear n p q x' y'
nearer n p q x y x' y' agree a b c d u v e f g i =
    agree u v (omega (arith, ints)) (omega (arith, ints)) (omega (arith, ints)) (omega (arith, ints))

-- a cell after n generations depends on the cells within distance n
pub evolve_near : (n : ℕ) (p q : Plane) (x y : ℤ) → AgreeNear n p q x y → evolve n p x y ≡ evolve n q x y
evolve_near zero p q x y agree =
    agree x y (omega (arith, ints)) (omega (arith, ints)) (omega (arith, ints)) (omega (arith, ints))
evolve_near (suc n) p q x y agree =
    next_plane_near (evolve n p) (evolve n q) x y (λ u v a b c d. evolve_near n p q u v (nearer n p q x y u v agree a b c d))

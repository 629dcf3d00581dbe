-- A cell's next state, by its nine cells.
use Rattle.std.proofs.Common.{ℤ, pos, ◌+ℤ◌, ◌-ℤ◌, ◌≤ℤ◌, ℕ, ◌+◌, ◌≡◌, ap, ap₂, arith, ◌≢◌, refl}
use Rattle.std.proofs.lemmas.Int.{ints}
use Rattle.std.specs.Int.Signed.{≤ℤ_refl}
use Rattle.ww_rule.specs.declared.pattern.State.{State}
use Rattle.ww_rule.specs.declared.pattern.State.TheVariants.{Empty, Head, Tail, Conductor}
use Rattle.ww_rule.specs.Wireworld.{Plane, next_plane, next_state, heads_around, count_head}

pub sum_same : (a b c d e f g h a' b' c' d' e' f' g' h' : ℕ) → a ≡ a' → b ≡ b' → c ≡ c' → d ≡ d' → e ≡ e' → f ≡ f' → g ≡ g' → h ≡ h' → a + b + c + d + e + f + g + h ≡ a' + b' + c' + d' + e' + f' + g' + h'
sum_same a b c d e f g h a' b' c' d' e' f' g' h' p1 p2 p3 p4 p5 p6 p7 p8 = omega arith

-- cells whose own states and whose neighbours' are the same have the same next state
pub next_plane_same : (p q : Plane) (x y u v : ℤ) → p x y ≡ q u v → p (x -ℤ pos 1) (y -ℤ pos 1) ≡ q (u -ℤ pos 1) (v -ℤ pos 1) → p x (y -ℤ pos 1) ≡ q u (v -ℤ pos 1) → p (x +ℤ pos 1) (y -ℤ pos 1) ≡ q (u +ℤ pos 1) (v -ℤ pos 1) → p (x -ℤ pos 1) y ≡ q (u -ℤ pos 1) v → p (x +ℤ pos 1) y ≡ q (u +ℤ pos 1) v → p (x -ℤ pos 1) (y +ℤ pos 1) ≡ q (u -ℤ pos 1) (v +ℤ pos 1) → p x (y +ℤ pos 1) ≡ q u (v +ℤ pos 1) → p (x +ℤ pos 1) (y +ℤ pos 1) ≡ q (u +ℤ pos 1) (v +ℤ pos 1) → next_plane p x y ≡ next_plane q u v
next_plane_same p q x y u v m nw n ne w e sw s se =
    ap₂ next_state m (sum_same _ _ _ _ _ _ _ _ _ _ _ _ _ _ _ _ (ap count_head nw) (ap count_head n) (ap count_head ne) (ap count_head w) (ap count_head e) (ap count_head sw) (ap count_head s) (ap count_head se))

-- a number lies between those beside it, and these lie in their order
pub from_one_less : (z : ℤ) → (z -ℤ pos 1) ≤ℤ z
from_one_less z = omega (arith, ints)

pub to_one_more : (z : ℤ) → z ≤ℤ (z +ℤ pos 1)
to_one_more z = omega (arith, ints)

pub across : (z : ℤ) → (z -ℤ pos 1) ≤ℤ (z +ℤ pos 1)
across z = omega (arith, ints)

-- a cell's next state depends on its own state and on which cells beside it are heads
pub next_plane_counts : (p q : Plane) (x y : ℤ) → p x y ≡ q x y → ((u v : ℤ) → (x -ℤ pos 1) ≤ℤ u → u ≤ℤ (x +ℤ pos 1) → (y -ℤ pos 1) ≤ℤ v → v ≤ℤ (y +ℤ pos 1) → count_head (p u v) ≡ count_head (q u v)) → next_plane p x y ≡ next_plane q x y
next_plane_counts p q x y m h =
    ap₂ next_state m (sum_same _ _ _ _ _ _ _ _ _ _ _ _ _ _ _ _ (h _ _ (≤ℤ_refl _) (across x) (≤ℤ_refl _) (across y)) (h _ _ (from_one_less x) (to_one_more x) (≤ℤ_refl _) (across y)) (h _ _ (across x) (≤ℤ_refl _) (≤ℤ_refl _) (across y)) (h _ _ (≤ℤ_refl _) (across x) (from_one_less y) (to_one_more y)) (h _ _ (across x) (≤ℤ_refl _) (from_one_less y) (to_one_more y)) (h _ _ (≤ℤ_refl _) (across x) (across y) (≤ℤ_refl _)) (h _ _ (from_one_less x) (to_one_more x) (across y) (≤ℤ_refl _)) (h _ _ (across x) (≤ℤ_refl _) (across y) (≤ℤ_refl _)))

-- an empty cell stays empty
pub next_plane_empty : (p : Plane) (x y : ℤ) → p x y ≡ Empty → next_plane p x y ≡ Empty
next_plane_empty p x y e = ap (λ s. next_state s (heads_around p x y)) e

-- a cell that is no head is not counted
pub not_counted : (s : State) → s ≢ Head → count_head s ≡ 0
not_counted Empty other = refl
not_counted Head other = absurd (other refl)
not_counted Tail other = refl
not_counted Conductor other = refl

pub sum_none : (a b c d e f g h : ℕ) → a ≡ 0 → b ≡ 0 → c ≡ 0 → d ≡ 0 → e ≡ 0 → f ≡ 0 → g ≡ 0 → h ≡ 0 → a + b + c + d + e + f + g + h ≡ 0
sum_none a b c d e f g h p1 p2 p3 p4 p5 p6 p7 p8 = omega arith

-- The rule commutes with translations and with mirrors.
use Rattle.std.proofs.Common.{ℤ, pos, ◌+ℤ◌, ◌-ℤ◌, ℕ, ◌+◌, ◌≡◌, refl, ap, ap₂, arith}
use Rattle.std.proofs.lemmas.Int.{ints}
use Rattle.std.proofs.Math.Path.{fun_ext}
use Rattle.ww_rule.specs.Wireworld.{Plane, next_plane, evolve, next_state, count_head}
use Rattle.ww_rule.specs.Laws.{moved, mirrored}
use Rattle.ww_rule.specs.DrivenLaws.{upside_down}
use Rattle.ww_rule.proofs.Generations.{evolve_keeps}
use Rattle.ww_rule.proofs.Cells.{next_plane_same}

down_moved : (x a : ℤ) → (x -ℤ pos 1) -ℤ a ≡ (x -ℤ a) -ℤ pos 1
down_moved x a = omega (arith, ints)

up_moved : (x a : ℤ) → (x +ℤ pos 1) -ℤ a ≡ (x -ℤ a) +ℤ pos 1
up_moved x a = omega (arith, ints)

pub next_plane_moved : (a b : ℤ) (p : Plane) → next_plane (moved a b p) ≡ moved a b (next_plane p)
next_plane_moved a b p =
    fun_ext (λ x. fun_ext (λ y. next_plane_same (moved a b p) p x y (x -ℤ a) (y -ℤ b) refl (ap₂ p (down_moved x a) (down_moved y b)) (ap (p (x -ℤ a)) (down_moved y b)) (ap₂ p (up_moved x a) (down_moved y b)) (ap (λ u. p u (y -ℤ b)) (down_moved x a)) (ap (λ u. p u (y -ℤ b)) (up_moved x a)) (ap₂ p (down_moved x a) (up_moved y b)) (ap (p (x -ℤ a)) (up_moved y b)) (ap₂ p (up_moved x a) (up_moved y b))))

pub evolve_moved : (a b : ℤ) (n : ℕ) (p : Plane) → evolve n (moved a b p) ≡ moved a b (evolve n p)
evolve_moved a b = evolve_keeps (moved a b) (next_plane_moved a b)

down_mirrored : (x a : ℤ) → a -ℤ (x -ℤ pos 1) ≡ (a -ℤ x) +ℤ pos 1
down_mirrored x a = omega (arith, ints)

up_mirrored : (x a : ℤ) → a -ℤ (x +ℤ pos 1) ≡ (a -ℤ x) -ℤ pos 1
up_mirrored x a = omega (arith, ints)

sum_turned : (a b c d e f g h a' b' c' d' e' f' g' h' : ℕ) → a ≡ c' → b ≡ b' → c ≡ a' → d ≡ e' → e ≡ d' → f ≡ h' → g ≡ g' → h ≡ f' → a + b + c + d + e + f + g + h ≡ a' + b' + c' + d' + e' + f' + g' + h'
sum_turned a b c d e f g h a' b' c' d' e' f' g' h' p1 p2 p3 p4 p5 p6 p7 p8 = omega arith

pub next_plane_mirrored : (a : ℤ) (p : Plane) → next_plane (mirrored a p) ≡ mirrored a (next_plane p)
next_plane_mirrored a p =
    fun_ext (λ x. fun_ext (λ y. let at = λ (u v : ℤ) (e : u ≡ v) (z : ℤ). ap (λ u. count_head (p u z)) e in ap (next_state (p (a -ℤ x) y)) (sum_turned _ _ _ _ _ _ _ _ _ _ _ _ _ _ _ _ (at _ _ (down_mirrored x a) (y -ℤ pos 1)) refl (at _ _ (up_mirrored x a) (y -ℤ pos 1)) (at _ _ (down_mirrored x a) y) (at _ _ (up_mirrored x a) y) (at _ _ (down_mirrored x a) (y +ℤ pos 1)) refl (at _ _ (up_mirrored x a) (y +ℤ pos 1)))))

pub evolve_mirrored : (a : ℤ) (n : ℕ) (p : Plane) → evolve n (mirrored a p) ≡ mirrored a (evolve n p)
evolve_mirrored a = evolve_keeps (mirrored a) (next_plane_mirrored a)

-- from north to south the rows change places
rows_turned : (a b c d e f g h a' b' c' d' e' f' g' h' : ℕ) → a ≡ f' → b ≡ g' → c ≡ h' → d ≡ d' → e ≡ e' → f ≡ a' → g ≡ b' → h ≡ c' → a + b + c + d + e + f + g + h ≡ a' + b' + c' + d' + e' + f' + g' + h'
rows_turned a b c d e f g h a' b' c' d' e' f' g' h' p1 p2 p3 p4 p5 p6 p7 p8 = omega arith

pub next_plane_upside_down : (b : ℤ) (p : Plane) → next_plane (upside_down b p) ≡ upside_down b (next_plane p)
next_plane_upside_down b p =
    fun_ext (λ x. fun_ext (λ y. let at = λ (u v : ℤ) (e : u ≡ v) (z : ℤ). ap (λ u. count_head (p z u)) e in let up = at _ _ (down_mirrored y b) in let down = at _ _ (up_mirrored y b) in ap (next_state (p x (b -ℤ y))) (rows_turned _ _ _ _ _ _ _ _ _ _ _ _ _ _ _ _ (up (x -ℤ pos 1)) (up x) (up (x +ℤ pos 1)) refl refl (down (x -ℤ pos 1)) (down x) (down (x +ℤ pos 1)))))

pub evolve_upside_down : (b : ℤ) (n : ℕ) (p : Plane) → evolve n (upside_down b p) ≡ upside_down b (evolve n p)
evolve_upside_down b = evolve_keeps (upside_down b) (next_plane_upside_down b)

-- The rule and driven evolutions commute with the exchange of columns and rows, and what turned rows show.
use Rattle.std.proofs.Common.{ℤ, pos, negsuc, ◌+ℤ◌, ◌-ℤ◌, ℕ, ◌+◌, ◌<◌, ◌≤◌, ◌≡◌, refl, sym, ap, ap₂, ◌∙◌, inl, inr, Bool, true, false, ◌||◌, ◌==◌, cond, List, [], ◌∷◌, length, get_or, map, filter, All, arith}
use Rattle.std.proofs.lemmas.Bool.{cases_lt}
use Rattle.std.proofs.Math.Bool.{and_comm}
use Rattle.std.proofs.Math.Path.{fun_ext}
use Rattle.std.specs.Ordering.{int_eq}
use Rattle.ww_rule.specs.declared.pattern.State.{State}
use Rattle.ww_rule.specs.declared.pattern.State.TheVariants.{Empty}
use Rattle.ww_rule.specs.declared.pattern.Injection.{Injection}
use Rattle.ww_rule.specs.Wireworld.{Plane, next_plane, next_state, evolve, count_head}
use Rattle.ww_rule.specs.Grid.{plane_of}
use Rattle.ww_rule.specs.Injections.{has_cell, due_of_list}
use Rattle.ww_rule.specs.Turns.{turned, due_turned, injection_turned, DrivesTurned}
use Rattle.ww_rule.proofs.Boxes.{plane_of_beside, plane_of_below}
use Rattle.ww_rule.proofs.Generations.{evolve_keeps}
use Rattle.ww_rule.proofs.DrivenPlanes.{drives_turned}

-- the eight neighbours are the same eight
eight_turned : (a b c d e f g h : ℕ) → a + b + c + d + e + f + g + h ≡ a + d + f + b + g + c + e + h
eight_turned a b c d e f g h = omega arith

pub next_plane_turned : (p : Plane) → next_plane (turned p) ≡ turned (next_plane p)
next_plane_turned p =
    fun_ext (λ x. fun_ext (λ y. let at = λ (u v : ℤ). count_head (p v u) in ap (next_state (p y x)) (eight_turned (at (x -ℤ pos 1) (y -ℤ pos 1)) (at x (y -ℤ pos 1)) (at (x +ℤ pos 1) (y -ℤ pos 1)) (at (x -ℤ pos 1) y) (at (x +ℤ pos 1) y) (at (x -ℤ pos 1) (y +ℤ pos 1)) (at x (y +ℤ pos 1)) (at (x +ℤ pos 1) (y +ℤ pos 1)))))

pub evolve_turned : (n : ℕ) (p : Plane) → evolve n (turned p) ≡ turned (evolve n p)
evolve_turned = evolve_keeps turned next_plane_turned

-- which cells a list makes due, turned
pub list_turned : (injections : List Injection) (g : ℕ) (x y : ℤ) → due_of_list (map injection_turned injections) g x y ≡ due_of_list injections g y x
list_turned [] g x y = refl
list_turned (i ∷ is) g x y = picked (list_turned is g x y) (i.generation == g)
  where
    picked : due_of_list (map injection_turned is) g x y ≡ due_of_list is g y x → (b : Bool) → has_cell (map (λ j. (j.x, j.y)) (cond b (injection_turned i ∷ filter (λ j. j.generation == g) (map injection_turned is)) (filter (λ j. j.generation == g) (map injection_turned is)))) x y ≡ has_cell (map (λ j. (j.x, j.y)) (cond b (i ∷ filter (λ j. j.generation == g) is) (filter (λ j. j.generation == g) is))) y x
    picked rest true = ap₂ (λ a b. a || b) (and_comm (int_eq (pos i.y) x) (int_eq (pos i.x) y)) rest
    picked rest false = rest

pub drives_turned_too : DrivesTurned
drives_turned_too =
    record {
      turns = drives_turned turned due_turned next_plane_turned (λ due g p. refl);
      lists = λ injections. fun_ext (λ g. fun_ext (λ x. fun_ext (λ y. list_turned injections g x y)));
    }

-- rows that hold the columns of rows of one length show the plane turned
pub turned_rows : (rows made : List (List State)) (w : ℕ) → All (λ row. length row ≡ w) rows → length made ≡ w → ((v : ℕ) → v < w → length (get_or made v []) ≡ length rows) → ((u v : ℕ) → u < length rows → v < w → get_or (get_or made v []) u Empty ≡ get_or (get_or rows u []) v Empty) → plane_of made ≡ turned (plane_of rows)
turned_rows rows made w long many wide cells = fun_ext (λ x. fun_ext (λ y. place x y))
  where
    beside : (u v : ℕ) → w ≤ v → plane_of rows (pos v) (pos u) ≡ Empty
    beside u v off =
        elim (cases_lt u (length rows)) [
          | inl lt ↦ let e : length (get_or rows u []) ≡ w = long u [] lt in plane_of_beside rows v u (omega arith)
          | inr ge ↦ plane_of_below rows v u ge
        ]

    place : (x y : ℤ) → plane_of made x y ≡ plane_of rows y x
    place (pos u) (pos v) =
        elim (cases_lt v w) [
          | inr off ↦ plane_of_below made u v (omega arith) ∙ sym (beside u v off)
          | inl within ↦
              elim (cases_lt u (length rows)) [
                | inl inside ↦ cells u v inside within
                | inr off ↦ let e : length (get_or made v []) ≡ length rows = wide v within in plane_of_beside made u v (omega arith) ∙ sym (plane_of_below rows v u off)
              ]
        ]
    place (pos u) (negsuc v) = refl
    place (negsuc u) (pos v) = refl
    place (negsuc u) (negsuc v) = refl

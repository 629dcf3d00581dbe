-- Windows as planes.
use Rattle.std.proofs.Common.{ℤ, pos, negsuc, ℕ, ◌+◌, ◌*◌, ◌/◌, ◌%◌, ◌<◌, ◌≤◌, ◌≡◌, refl, sym, ap, ap₂, ◌∙◌, cond, List, length, get_or, arith, inl, inr, mod-lt, lit<}
use Rattle.std.proofs.lemmas.Bool.{cases_lt, lt-ltb, le-ltb}
use Rattle.std.proofs.lemmas.List.{get_or_past}
use Rattle.std.proofs.lemmas.Nat.{mod-mul-add, div-mul-add, div-add-mod'}
use Rattle.std.proofs.Math.Path.{fun_ext}
use Rattle.ww_rule.specs.declared.pattern.State.{State}
use Rattle.ww_rule.specs.declared.pattern.State.TheVariants.{Empty, Conductor}
use Rattle.ww_rule.specs.Wireworld.{Plane, next_plane}
use Rattle.ww_rule.proofs.Cells.{next_plane_empty}
use Rattle.tile_timing.specs.Window.{shown}
use Rattle.tile_core.specs.Drawing.{Cell, is_cell_of}
use Rattle.tile_timing.specs.Law.{drawing_of, is_filled, marked}

pub beside : (cells : List State) (w x y : ℕ) → w ≤ x → shown cells w (pos x) (pos y) ≡ Empty
beside cells w x y h = ap (λ b. cond b (get_or cells (y * w + x) Empty) Empty) (le-ltb x w h)

pub at_place : (cells : List State) (w x y : ℕ) → x < w → shown cells w (pos x) (pos y) ≡ get_or cells (y * w + x) Empty
at_place cells w x y h = ap (λ b. cond b (get_or cells (y * w + x) Empty) Empty) (lt-ltb x w h)

-- what a window shows at the place of its cell k
pub shown_at : (cells : List State) (w k : ℕ) → 0 < w → shown cells w (pos (k % w)) (pos (k / w)) ≡ get_or cells k Empty
shown_at cells w k h =
    at_place cells w (k % w) (k / w) (mod-lt k h) ∙ ap (λ j. get_or cells j Empty) (div-add-mod' k w)

-- a window shows a plane that is empty where another window of the same length is, if each of its cells is the plane's there
pub shown_is : (q : Plane) (base cells : List State) (w : ℕ) → length cells ≡ length base → ((x y : ℤ) → shown base w x y ≡ Empty → q x y ≡ Empty) → ((k : ℕ) → k < length cells → get_or cells k Empty ≡ q (pos (k % w)) (pos (k / w))) → shown cells w ≡ q
shown_is q base cells w same out each = fun_ext (λ x. fun_ext (λ y. place x y))
  where
    place : (x y : ℤ) → shown cells w x y ≡ q x y
    place (pos x) (pos y) =
        elim (cases_lt x w) [
          | inr off ↦ beside cells w x y off ∙ sym (out (pos x) (pos y) (beside base w x y off))
          | inl within ↦
              elim (cases_lt (y * w + x) (length cells)) [
                | inr off ↦ at_place cells w x y within ∙ get_or_past cells (y * w + x) Empty off ∙ sym (out (pos x) (pos y) (at_place base w x y within ∙ get_or_past base (y * w + x) Empty (omega arith)))
                | inl inside ↦ at_place cells w x y within ∙ each (y * w + x) inside ∙ ap₂ (λ a b. q (pos a) (pos b)) (mod-mul-add y w x within) (div-mul-add y w x within)
              ]
        ]
    place (pos x) (negsuc y) = sym (out (pos x) (negsuc y) refl)
    place (negsuc x) y = sym (out (negsuc x) y refl)

-- a window whose places hold the rule's answers shows the next plane
pub shown_next : (old new : List State) (w : ℕ) → length new ≡ length old → ((k : ℕ) → k < length new → get_or new k Empty ≡ next_plane (shown old w) (pos (k % w)) (pos (k / w))) → shown new w ≡ next_plane (shown old w)
shown_next old new w same each =
    shown_is (next_plane (shown old w)) old new w same (λ x y e. next_plane_empty (shown old w) x y e) each

-- a marked drawing of a window is empty where the window is
pub marked_empty : (base : List State) (cells : List Cell) (mark : State) (x y : ℤ) → shown base 32 x y ≡ Empty → marked (drawing_of base) cells mark x y ≡ Empty
marked_empty base cells mark x y e = ap (λ s. cond (is_filled s) (cond (is_cell_of x y cells) mark Conductor) Empty) e

pub shown_gives : (q : Plane) (cells : List State) (k : ℕ) → shown cells 32 ≡ q → get_or cells k Empty ≡ q (pos (k % 32)) (pos (k / 32))
shown_gives q cells k e =
    sym (shown_at cells 32 k (lit< tt)) ∙ ap (λ p. p (pos (k % 32)) (pos (k / 32))) e

-- The rows of a box, from a function that gives each cell's state.
use Rattle.std.proofs.Common.{ℕ, ◌*◌, ◌<◌, ◌≡◌, ◌≢◌, ◌⊎◌, inl, inr, refl, ap, ◌∙◌, true, false, ◌==◌, List, [], length, map, get_or, arith}
use Rattle.std.specs.Prelude.{if◌then◌else◌}
use Rattle.std.specs.List.{range_with_len}
use Rattle.std.proofs.lemmas.Bool.Decides.{eqb_tells}
use Rattle.std.proofs.lemmas.List.FromFn.{fill_by_all, length-map-range_with_len, get_or-map-range_with_len}
use Rattle.ww_rule.specs.declared.pattern.State.{State}
use Rattle.ww_rule.specs.declared.pattern.State.TheVariants.{Empty}
use Rattle.ww_rule.specs.Grid.{IsGrid}

abbrev pub row_cells : ℕ → (ℕ → ℕ → State) → ℕ → List State
row_cells width state y = map (λ x. state x y) (range_with_len 0 width)

abbrev pub box_rows : ℕ → ℕ → (ℕ → ℕ → State) → List (List State)
box_rows width height state = if width * height == 0 then [] else map (row_cells width state) (range_with_len 0 height)

abbrev pub HasCells : ℕ → ℕ → List (List State) → (ℕ → ℕ → State) → Type 0
HasCells width height rows state = (x y : ℕ) → x < width → y < height → get_or (get_or rows y []) x Empty ≡ state x y

full_rows : (width height : ℕ) (rows : List (List State)) (state : ℕ → ℕ → State) → IsGrid width height rows → HasCells width height rows state → length rows ≡ height → rows ≡ map (row_cells width state) (range_with_len 0 height)
full_rows width height rows state grid cells many =
    fill_by_all (row_cells width state) rows height [] many
    (λ y l. fill_by_all (λ x. state x y) (get_or rows y []) width Empty (grid.long y [] (omega (arith, many))) (λ x k. cells x y k l))

-- the rows of a grid whose cells are known
pub rows_from_cells : (width height : ℕ) (rows : List (List State)) (state : ℕ → ℕ → State) → IsGrid width height rows → HasCells width height rows state → rows ≡ box_rows width height state
rows_from_cells width height rows state grid cells = by_area (eqb_tells (width * height) 0)
  where
    by_area : (((width * height == 0) ≡ true) × (width * height ≡ 0)) ⊎ (((width * height == 0) ≡ false) × (width * height ≢ 0)) → rows ≡ box_rows width height state
    by_area (inl e) = rw (e.0) (grid.none e.1)
    by_area (inr e) = rw (e.0) (full_rows width height rows state grid cells (grid.many e.1))

full_is_grid : (width height : ℕ) (state : ℕ → ℕ → State) → width * height ≢ 0 → IsGrid width height (map (row_cells width state) (range_with_len 0 height))
full_is_grid width height state some = record {
  long = λ k d l. let at = get_or-map-range_with_len (row_cells width state) 0 height k k d (omega (arith, length-map-range_with_len (row_cells width state) 0 height)) (omega arith) in rw at (length-map-range_with_len (λ x. state x k) 0 width);
  many = λ _. length-map-range_with_len (row_cells width state) 0 height;
  none = λ e. absurd (some e);
}

no_rows : (width height : ℕ) → width * height ≡ 0 → IsGrid width height []
no_rows width height e = record { long = λ k d l. absurd (omega (arith, l)); many = λ h. absurd (h e); none = λ _. refl }

pub box_is_grid : (width height : ℕ) (state : ℕ → ℕ → State) → IsGrid width height (box_rows width height state)
box_is_grid width height state = by_area (eqb_tells (width * height) 0)
  where
    by_area : (((width * height == 0) ≡ true) × (width * height ≡ 0)) ⊎ (((width * height == 0) ≡ false) × (width * height ≢ 0)) → IsGrid width height (box_rows width height state)
    by_area (inl e) = rw (e.0) (no_rows width height e.1)
    by_area (inr e) = rw (e.0) (full_is_grid width height state e.1)

not_empty_area : (width height x y : ℕ) → x < width → y < height → width * height ≡ 0 → ⊥
not_empty_area width height x y h k e = grind arith

pub box_cells : (width height : ℕ) (state : ℕ → ℕ → State) → HasCells width height (box_rows width height state) state
box_cells width height state x y h k = by_area (eqb_tells (width * height) 0)
  where
    by_area : (((width * height == 0) ≡ true) × (width * height ≡ 0)) ⊎ (((width * height == 0) ≡ false) × (width * height ≢ 0)) → get_or (get_or (box_rows width height state) y []) x Empty ≡ state x y
    by_area (inl e) = absurd (not_empty_area width height x y h k e.1)
    by_area (inr e) =
        rw (e.0) (
        ap (λ row. get_or row x Empty) (get_or-map-range_with_len (row_cells width state) 0 height y y [] k (omega arith))
        ∙ get_or-map-range_with_len (λ c. state c y) 0 width x x Empty h (omega arith))
